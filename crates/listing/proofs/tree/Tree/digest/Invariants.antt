use Rattle.std.proofs.Common.{take}
use Rattle.std.specs.List.{flat_map}
use Rattle.sha2.specs.Hashers.{Holds256}
use Rattle.listing.specs.Digest.{package_lines}
use Rattle.listing.proofs.tree.Tree.digest.Given as goal

abbrev pub invariant-loop-position : goal.invariant-loop-position
invariant-loop-position l = Holds256 l.hasher (flat_map (package_lines l.self) (take l.position l.self))
