use Rattle.std.proofs.Common.{◌≡◌, ◌<◌, ◌∙◌, length, map, ap, get_or, subst, sym, arith}
use Rattle.std.specs.Prelude.{All}
use Rattle.std.proofs.lemmas.List.{length-map}
use Rattle.engine.proofs.Kept.{all_listed, kept_at, unit_some}
use Rattle.engine.specs.Division.{Division, unit_at}
use Rattle.engine.specs.declared.units.Parts.{Parts}
use Rattle.engine.specs.inside.UnitKeeping.{unit_made}
use Rattle.engine.proofs.units.Units.packages.Goals as goal

pub returns-clause-some : goal.returns-clause-some
returns-clause-some c =
    let d : Division = record { tree = c.self.inside.tree.now; units = map (unit_made c.self.inside.tree.now) c.self.inside.parts.value.units.items } in
    let seen : d ≡ c.args.self.now = c.self.view_is in
    let lt : c.args.unit < length d.units = subst (λ (e : Division). c.args.unit < length e.units) (sym seen) c.requires in
    let within : c.args.unit < length c.self.inside.parts.value.units.items = omega (arith, lt, length-map c.self.inside.parts.value.units.items (unit_made c.self.inside.tree.now)) in
    let same = kept_at d.tree c.self.inside.parts.value.units.items c.args.unit c.index-made.result.now within (c.index-made.ensures ∙ ap (λ (p : Parts). get_or p.units.items c.args.unit c.index-made.result.now) c.deref.ensures) in
    let here : (unit_at d c.args.unit).packages ≡ c.as_slice.result.now = ap (λ u. u.packages) same ∙ sym c.as_slice.ensures.value in
    subst (λ ps. 0 < length ps) here (unit_some d c.args.unit c.self.invariant.0 lt)

pub returns-clause-listed : goal.returns-clause-listed
returns-clause-listed c =
    let d : Division = record { tree = c.self.inside.tree.now; units = map (unit_made c.self.inside.tree.now) c.self.inside.parts.value.units.items } in
    let seen : d ≡ c.args.self.now = c.self.view_is in
    let lt : c.args.unit < length d.units = subst (λ (e : Division). c.args.unit < length e.units) (sym seen) c.requires in
    let within : c.args.unit < length c.self.inside.parts.value.units.items = omega (arith, lt, length-map c.self.inside.parts.value.units.items (unit_made c.self.inside.tree.now)) in
    let same = kept_at d.tree c.self.inside.parts.value.units.items c.args.unit c.index-made.result.now within (c.index-made.ensures ∙ ap (λ (p : Parts). get_or p.units.items c.args.unit c.index-made.result.now) c.deref.ensures) in
    let here : (unit_at d c.args.unit).packages ≡ c.as_slice.result.now = ap (λ u. u.packages) same ∙ sym c.as_slice.ensures.value in
    let listed : All (λ p. p < length d.tree) c.as_slice.result.now = subst (All (λ p. p < length d.tree)) here (all_listed d c.args.unit c.self.invariant.0 lt) in
    subst (λ (e : Division). All (λ p. p < length e.tree) c.as_slice.result.now) seen listed
