use Rattle.std.proofs.Common.{◌≡◌, map, length, ap, sym, ◌∙◌, arith}
use Rattle.std.proofs.lemmas.List.{length-map}
use Rattle.listing.specs.Rules.{group_by}
use Rattle.listing.specs.Tree.{Package}
use Rattle.listing.proofs.Positions.{group_there, groups-packages_of}
use Rattle.listing.proofs.tree.Tree.group.Goals as goal

pub at-requires : goal.at-requires
at-requires c =
    let are : c.self.inside.groups ≡ map (λ (x : Package). x.group) c.args.self.now =
    c.self.invariant.2 ∙ sym (groups-packages_of (group_by c.self.inside.is_single) c.self.inside.paths.keys c.self.inside.bare_packages.items c.self.invariant.0)
    ∙ ap (map (λ (x : Package). x.group)) c.self.view_is in
    omega (arith, c.requires, ap length are, length-map c.args.self.now (λ (x : Package). x.group))

pub returns : goal.returns
returns c =
    let are : c.self.inside.groups ≡ map (λ (x : Package). x.group) c.args.self.now =
    c.self.invariant.2 ∙ sym (groups-packages_of (group_by c.self.inside.is_single) c.self.inside.paths.keys c.self.inside.bare_packages.items c.self.invariant.0)
    ∙ ap (map (λ (x : Package). x.group)) c.self.view_is in
    c.at.ensures ∙ group_there c.args.self.now c.self.inside.groups c.args.position are c.requires
