use Rattle.std.proofs.Common.{◌≡◌, map, take}
use Rattle.listing.specs.Tree.{path_at}
use Rattle.engine.proofs.making.paths_at.Given as goal

abbrev pub invariant-loop-position : goal.invariant-loop-position
invariant-loop-position l = map (λ path. path.now) l.paths.items ≡ map (path_at l.tree) (take l.position-index l.packages)
