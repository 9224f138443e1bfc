use Rattle.std.proofs.Common.{map, take}
use Rattle.std.specs.Prelude.{All}
use Rattle.hex.specs.Hex.{IsBytes}
use Rattle.package_record.specs.FileView.{file_view}
use Rattle.dpbr_wayon.proofs.writable.files_are_bytes.Given as goal

abbrev pub invariant-loop-file : goal.invariant-loop-file
invariant-loop-file l = All (λ f. IsBytes f.bytes) (map file_view (take l.file-index l.files))
