use Rattle.std.proofs.Common.{◌∙◌}
use Rattle.std.proofs.lemmas.List.{length-map}
use Rattle.package_record.specs.Content.{file_lines}
use Rattle.package_record.specs.FileView.{file_view}
use Rattle.package_record.proofs.Hashing.{digest_there, seen_at}
use Rattle.package_record.proofs.Texts.{ended_next_seen, ended_none}
use Rattle.package_record.proofs.writing.put_files.Goals as goal

pub loop-index-preserved : goal.loop-index-preserved
loop-index-preserved c =
    let files = c.as_slice-file-items.result.now in
    let seen = rw c.as_slice-file-items.ensures at (seen_at files c.loop-index.index c.file-item.result c.loop-index-test.true c.file-item.is) in
    let within = rw c.as_slice-file-items.ensures at (rw (← length-map files file_view) at c.loop-index-test.true) in
    ended_next_seen file_lines _ _ _ c.args.files.now c.loop-index.index (file_view c.file-item.result) within seen c.loop-index.invariant c.in_ok-put_file.ensures

pub loop-index-init : goal.loop-index-init
loop-index-init c = ended_none _

pub put_file-requires : goal.put_file-requires
put_file-requires c =
    let there = digest_there c.as_slice-file-items.result.now c.loop-index.index c.file-item.result c.loop-index-test.true c.file-item.is in
    c.digest.ensures ∙ rw c.as_slice-file-items.ensures at there
