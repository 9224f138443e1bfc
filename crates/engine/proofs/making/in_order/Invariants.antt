use Rattle.std.proofs.Common.{◌≡◌, map, take}
use Rattle.std.specs.Prelude.{filter_map}
use Rattle.listing.specs.Tree.{position_of}
use Rattle.engine.proofs.making.in_order.Given as goal

abbrev pub invariant-loop-path : goal.invariant-loop-path
invariant-loop-path l = l.sorted.items ≡ filter_map (position_of l.tree) (map (λ path. path.now) (take l.path-index l.path-items))
