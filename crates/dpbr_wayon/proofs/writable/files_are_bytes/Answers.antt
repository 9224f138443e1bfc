use Rattle.std.proofs.Common.{List, map, subst, arith}
use Rattle.std.proofs.lemmas.List.{take_all}
use Rattle.std.specs.Prelude.{All}
use Rattle.dpbr_wayon.proofs.Growing.{all_more}
use Rattle.hex.specs.Hex.{IsBytes}
use Rattle.package_record.specs.Content.{NamedFile}
use Rattle.package_record.specs.FileView.{file_view}
use Rattle.dpbr_wayon.proofs.writable.files_are_bytes.Goals as goal

pub loop-file-preserved : goal.loop-file-preserved
loop-file-preserved c =
    all_more file_view (λ (f : NamedFile). IsBytes f.bytes) c.args.files.now c.loop-file.file-index
    c.file-item.result c.loop-file-test.true c.file-item.is c.loop-file.invariant
    (subst IsBytes c.as_slice.ensures.value c.are_bytes.ensures)
