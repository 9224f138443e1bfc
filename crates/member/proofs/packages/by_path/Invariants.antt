use Rattle.std.proofs.Common.{◌≡◌}
use Rattle.std.specs.Str.{bytes_eq}
use Rattle.faults.specs.Bytes.{Text}
use Rattle.indexmap.specs.IndexMap.{get}
use Rattle.member.specs.inside.Packages.{files_at}
use Rattle.member.proofs.packages.by_path.Given as goal

abbrev pub invariant-loop-path : goal.invariant-loop-path
invariant-loop-path l = (path : Text) → get bytes_eq l.files path ≡ files_at l.yielded path
