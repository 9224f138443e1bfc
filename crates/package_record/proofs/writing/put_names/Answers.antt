use Rattle.package_record.proofs.Texts.{ended_more}
use Rattle.package_record.proofs.writing.put_names.Goals as goal

pub returns-clause-text : goal.returns-clause-text
returns-clause-text c =
    let name = rw c.as_bytes.ensures.text at c.in_ok-put_field-2.ensures in
    let path = rw c.as_bytes-2.ensures.text at c.in_ok-put_field-3.ensures in
    ended_more _ _ _ _ _ (ended_more _ _ _ _ _ c.in_ok-put_field.ensures name) path
