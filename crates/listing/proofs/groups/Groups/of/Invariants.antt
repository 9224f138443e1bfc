use Rattle.std.proofs.Common.{map, take}
use Rattle.listing.specs.Rules.{group_by}
use Rattle.listing.specs.inside.Groups.{AreGroups}
use Rattle.listing.proofs.groups.Groups.of.Given as goal

abbrev pub invariant-loop-path : goal.invariant-loop-path
invariant-loop-path l = AreGroups (map (group_by l.is_single) (take l.path-index l.paths)) l.sizes.entries l.places.items
