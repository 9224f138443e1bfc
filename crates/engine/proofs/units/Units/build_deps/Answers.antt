use Rattle.std.proofs.Common.{◌≡◌, ◌<◌, ◌≢◌, ◌∙◌, get_or, length, map, ap, subst, sym, arith}
use Rattle.std.proofs.lemmas.List.{length-map}
use Rattle.listing.specs.Tree.{ArePositions, build_at}
use Rattle.engine.proofs.Kept.{build_one, build_several, kept_at, stands_at, unit_good}
use Rattle.engine.specs.Division.{Division, unit_at}
use Rattle.engine.specs.declared.making.Made.{Made}
use Rattle.engine.specs.declared.units.Parts.{Parts}
use Rattle.engine.specs.inside.UnitKeeping.{unit_made}
use Rattle.engine.proofs.units.Units.build_deps.Goals as goal

pub build_deps-requires : goal.build_deps-requires
build_deps-requires c =
    let d : Division = record { tree = c.self.inside.tree.now; units = map (unit_made c.self.inside.tree.now) c.self.inside.parts.value.units.items } in
    let seen : d ≡ c.args.self.now = c.self.view_is in
    let lt = c.packages-packages.ensures.listed 0 0 c.packages-packages.ensures.some in
    omega (arith, lt, ap (λ (e : Division). length e.tree) seen)

pub returns-then-packages-eq1-clause-value : goal.returns-then-packages-eq1-clause-value
returns-then-packages-eq1-clause-value c =
    let d : Division = record { tree = c.self.inside.tree.now; units = map (unit_made c.self.inside.tree.now) c.self.inside.parts.value.units.items } in
    let seen : d ≡ c.args.self.now = c.self.view_is in
    let lt : c.args.unit < length d.units = subst (λ (e : Division). c.args.unit < length e.units) (sym seen) c.requires in
    let within : c.args.unit < length c.self.inside.parts.value.units.items = omega (arith, lt, length-map c.self.inside.parts.value.units.items (unit_made c.self.inside.tree.now)) in
    let stands = stands_at c.self.inside.parts.value.units.items c.args.unit within in
    let made : Made = stands.0 in
    let same = kept_at d.tree c.self.inside.parts.value.units.items c.args.unit made within stands.1 in
    let packages : c.packages-packages.result.now ≡ made.packages.items = c.packages-packages.ensures.value ∙ sym (ap (λ (e : Division). (unit_at e c.args.unit).packages) seen) ∙ ap (λ u. u.packages) same in
    let one : length made.packages.items ≡ 1 = sym (ap length packages) ∙ c.if-packages-eq1.true in
    c.build_deps.ensures.value
    ∙ ap (λ qs. build_at d.tree (get_or qs 0 0)) packages
    ∙ sym (build_one d.tree made.packages.items made.build.items one)
    ∙ sym (ap (λ u. u.build) same)
    ∙ ap (λ (e : Division). (unit_at e c.args.unit).build) seen

pub returns-then-packages-eq1-clause-positions : goal.returns-then-packages-eq1-clause-positions
returns-then-packages-eq1-clause-positions c =
    let d : Division = record { tree = c.self.inside.tree.now; units = map (unit_made c.self.inside.tree.now) c.self.inside.parts.value.units.items } in
    let seen : d ≡ c.args.self.now = c.self.view_is in
    subst (λ (e : Division). ArePositions e.tree c.build_deps.result.now) seen c.build_deps.ensures.positions

pub returns-clause-value : goal.returns-clause-value
returns-clause-value c =
    let d : Division = record { tree = c.self.inside.tree.now; units = map (unit_made c.self.inside.tree.now) c.self.inside.parts.value.units.items } in
    let seen : d ≡ c.args.self.now = c.self.view_is in
    let lt : c.args.unit < length d.units = subst (λ (e : Division). c.args.unit < length e.units) (sym seen) c.requires in
    let within : c.args.unit < length c.self.inside.parts.value.units.items = omega (arith, lt, length-map c.self.inside.parts.value.units.items (unit_made c.self.inside.tree.now)) in
    let made = c.index-made.result.now in
    let same = kept_at d.tree c.self.inside.parts.value.units.items c.args.unit made within (c.index-made.ensures ∙ ap (λ (p : Parts). get_or p.units.items c.args.unit made) c.deref.ensures) in
    let packages : c.packages-packages.result.now ≡ made.packages.items = c.packages-packages.ensures.value ∙ sym (ap (λ (e : Division). (unit_at e c.args.unit).packages) seen) ∙ ap (λ u. u.packages) same in
    let more : length made.packages.items ≢ 1 = λ e. c.if-packages-eq1.false (ap length packages ∙ e) in
    c.as_slice.ensures.value
    ∙ sym (build_several d.tree made.packages.items made.build.items more)
    ∙ sym (ap (λ u. u.build) same)
    ∙ ap (λ (e : Division). (unit_at e c.args.unit).build) seen

pub returns-clause-positions : goal.returns-clause-positions
returns-clause-positions c =
    let d : Division = record { tree = c.self.inside.tree.now; units = map (unit_made c.self.inside.tree.now) c.self.inside.parts.value.units.items } in
    let seen : d ≡ c.args.self.now = c.self.view_is in
    let lt : c.args.unit < length d.units = subst (λ (e : Division). c.args.unit < length e.units) (sym seen) c.requires in
    let within : c.args.unit < length c.self.inside.parts.value.units.items = omega (arith, lt, length-map c.self.inside.parts.value.units.items (unit_made c.self.inside.tree.now)) in
    let made = c.index-made.result.now in
    let same = kept_at d.tree c.self.inside.parts.value.units.items c.args.unit made within (c.index-made.ensures ∙ ap (λ (p : Parts). get_or p.units.items c.args.unit made) c.deref.ensures) in
    let packages : c.packages-packages.result.now ≡ made.packages.items = c.packages-packages.ensures.value ∙ sym (ap (λ (e : Division). (unit_at e c.args.unit).packages) seen) ∙ ap (λ u. u.packages) same in
    let more : length made.packages.items ≢ 1 = λ e. c.if-packages-eq1.false (ap length packages ∙ e) in
    let build : (unit_at d c.args.unit).build ≡ c.as_slice.result.now =
    ap (λ u. u.build) same ∙ build_several d.tree made.packages.items made.build.items more ∙ sym c.as_slice.ensures.value in
    subst (λ (e : Division). ArePositions e.tree c.as_slice.result.now) seen (subst (ArePositions d.tree) build (unit_good d c.args.unit c.self.invariant.0 lt).needs)
