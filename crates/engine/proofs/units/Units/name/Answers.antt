use Rattle.std.proofs.Common.{◌≡◌, ◌≢◌, ◌∙◌, get_or, length, map, ap, subst, sym, arith}
use Rattle.listing.specs.Tree.{group_at, path_at}
use Rattle.engine.proofs.Kept.{name_alone_at, name_group_at}
use Rattle.engine.specs.Division.{Division, IsDivision, unit_at}
use Rattle.engine.specs.inside.UnitKeeping.{AreGroups, unit_made}
use Rattle.engine.proofs.units.Units.name.Goals as goal

pub path-requires : goal.path-requires
path-requires c =
    let d : Division = record { tree = c.self.inside.tree.now; units = map (unit_made c.self.inside.tree.now) c.self.inside.parts.value.units.items } in
    let seen : d ≡ c.args.self.now = c.self.view_is in
    let lt = c.packages-packages.ensures.listed 0 0 c.packages-packages.ensures.some in
    omega (arith, lt, ap (λ (e : Division). length e.tree) seen)

pub group-requires : goal.group-requires
group-requires c =
    let d : Division = record { tree = c.self.inside.tree.now; units = map (unit_made c.self.inside.tree.now) c.self.inside.parts.value.units.items } in
    let seen : d ≡ c.args.self.now = c.self.view_is in
    let lt = c.packages-packages.ensures.listed 0 0 c.packages-packages.ensures.some in
    omega (arith, lt, ap (λ (e : Division). length e.tree) seen)

pub returns-then-packages-eq1 : goal.returns-then-packages-eq1
returns-then-packages-eq1 c =
    let d : Division = record { tree = c.self.inside.tree.now; units = map (unit_made c.self.inside.tree.now) c.self.inside.parts.value.units.items } in
    let seen : d ≡ c.args.self.now = c.self.view_is in
    let ps = c.packages-packages.result.now in
    let is = subst IsDivision seen c.self.invariant.0 in
    let one : length (unit_at c.args.self.now c.args.unit).packages ≡ 1 = sym (ap length c.packages-packages.ensures.value) ∙ c.if-packages-eq1.true in
    c.path.ensures
    ∙ ap (λ (e : Division). path_at e.tree (get_or ps 0 0)) seen
    ∙ ap (λ qs. path_at c.args.self.now.tree (get_or qs 0 0)) c.packages-packages.ensures.value
    ∙ name_alone_at c.args.self.now c.args.unit is c.requires one

pub returns : goal.returns
returns c =
    let d : Division = record { tree = c.self.inside.tree.now; units = map (unit_made c.self.inside.tree.now) c.self.inside.parts.value.units.items } in
    let seen : d ≡ c.args.self.now = c.self.view_is in
    let ps = c.packages-packages.result.now in
    let is = subst IsDivision seen c.self.invariant.0 in
    let groups = subst (λ (e : Division). AreGroups e c.self.inside.parts.value.groups.keys) seen c.self.invariant.2 in
    let more : length (unit_at c.args.self.now c.args.unit).packages ≢ 1 = λ e. c.if-packages-eq1.false (ap length c.packages-packages.ensures.value ∙ e) in
    c.group.ensures
    ∙ ap (λ (e : Division). group_at e.tree (get_or ps 0 0)) seen
    ∙ ap (λ qs. group_at c.args.self.now.tree (get_or qs 0 0)) c.packages-packages.ensures.value
    ∙ name_group_at c.args.self.now c.self.inside.parts.value.groups.keys c.args.unit is groups c.requires more
