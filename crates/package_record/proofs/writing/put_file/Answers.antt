use Rattle.package_record.proofs.Texts.{ended_more}
use Rattle.package_record.proofs.writing.put_file.Goals as goal

pub returns : goal.returns
returns c =
    let name = rw c.as_slice.ensures.value at c.in_ok-put_field.ensures in
    let digest = rw c.requires at c.in_ok-put_digest.ensures in
    let size = rw (c.len.ensures, c.args.file.now.bytes.ok.0) at c.in_ok-put_size.ensures in
    ended_more _ _ _ _ _ (ended_more _ _ _ _ _ name digest) size
