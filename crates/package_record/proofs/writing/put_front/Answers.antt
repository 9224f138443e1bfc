use Rattle.package_record.proofs.Texts.{ended_more}
use Rattle.package_record.proofs.writing.put_front.Goals as goal

pub returns-clause-text : goal.returns-clause-text
returns-clause-text c = ended_more _ _ _ _ _ (ended_more _ _ _ _ _ c.in_ok-put_names.ensures.text c.in_ok-put_host.ensures) c.in_ok-put_claim.ensures
