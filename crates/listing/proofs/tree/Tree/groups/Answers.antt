use Rattle.std.proofs.Common.{map, ap, sym, ◌∙◌}
use Rattle.listing.specs.Rules.{group_by}
use Rattle.listing.specs.Tree.{Package}
use Rattle.listing.proofs.Positions.{groups-packages_of}
use Rattle.listing.proofs.tree.Tree.groups.Goals as goal

pub returns : goal.returns
returns c =
    c.self.invariant.2 ∙ sym (groups-packages_of (group_by c.self.inside.is_single) c.self.inside.paths.keys c.self.inside.bare_packages.items c.self.invariant.0)
    ∙ ap (map (λ (x : Package). x.group)) c.self.view_is
