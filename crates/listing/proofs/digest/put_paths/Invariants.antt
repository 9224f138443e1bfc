use Rattle.std.proofs.Common.{take}
use Rattle.listing.specs.Digest.{path_lines}
use Rattle.listing.specs.inside.Hashing.{Takes}
use Rattle.listing.proofs.digest.put_paths.Given as goal

abbrev pub invariant-loop-position : goal.invariant-loop-position
invariant-loop-position l = Takes l.initial.hasher l.hasher (path_lines l.tree l.word (take l.position-index l.positions))
