use Rattle.std.proofs.Common.{◌≡◌, map, take}
use Rattle.dpbr_wayon.specs.WayOn.{given_of}
use Rattle.listing.specs.Tree.{path_at}
use Rattle.dpbr_wayon.proofs.handed.given_to.Given as goal

abbrev pub invariant-loop-position : goal.invariant-loop-position
invariant-loop-position l =
    l.items.items ≡ given_of l.builds (map (path_at l.tree) (take l.position-index l.positions))
