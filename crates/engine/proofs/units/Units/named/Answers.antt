use Rattle.std.proofs.Common.{◌≡◌, ◌<◌, ◌≤◌, ◌∙◌, MatchOption, None, Some, ℕ, length, ap, get_or, map, option_and_then, position, subst, sym, arith}
use Rattle.std.proofs.lemmas.List.{length-map}
use Rattle.std.proofs.lemmas.Option.{none-some}
use Rattle.std.specs.Str.{bytes_eq}
use Rattle.listing.specs.Tree.{position_of}
use Rattle.engine.proofs.Kept.{few_units, kept_at, path_found, several_found}
use Rattle.engine.specs.Division.{Division, number_found, number_of, unit_at}
use Rattle.engine.specs.declared.units.Parts.{Parts}
use Rattle.engine.specs.inside.UnitKeeping.{unit_made}
use Rattle.engine.proofs.units.Units.named.Goals as goal

some_same : {i j : ℕ} → Some i ≡ Some j → i ≡ j
some_same e = cc

pub overflow_cast-result : goal.overflow_cast-result
overflow_cast-result c =
    let d : Division = record { tree = c.self.inside.tree.now; units = map (unit_made c.self.inside.tree.now) c.self.inside.parts.value.units.items } in
    let seen : d ≡ c.args.self.now = c.self.view_is in
    let keys = c.self.inside.parts.value.groups.keys in
    omega (arith, c.in_ok-unit.ensures.within, c.self.invariant.2.each, ap (λ (p : Parts). length p.groups.keys) c.deref.ensures, few_units d c.self.invariant.0, c.self.invariant.0.tree.few)

pub returns-in_err-unit : goal.returns-in_err-unit
returns-in_err-unit c =
    let d : Division = record { tree = c.self.inside.tree.now; units = map (unit_made c.self.inside.tree.now) c.self.inside.parts.value.units.items } in
    let seen : d ≡ c.args.self.now = c.self.view_is in
    let keys = c.self.inside.parts.value.groups.keys in
    let none : position (bytes_eq c.args.path.now) keys ≡ None = ap (λ (p : Parts). position (bytes_eq c.args.path.now) p.groups.keys) (sym c.deref.ensures) ∙ sym c.get_index_of.ensures.index ∙ c.in_err-unit.was in
    let path = path_found d keys c.args.path.now c.self.invariant.0 c.self.invariant.2 (λ k found. absurd (none-some k (sym none ∙ found))) in
    let right = subst (λ (e : Division). number_found e c.args.path.now ≡ option_and_then (number_of e) (position_of e.tree c.args.path.now)) seen path in
    subst (λ o. MatchOption o (number_found c.args.self.now c.args.path.now ≡ option_and_then (number_of c.args.self.now) (position_of c.args.self.now.tree c.args.path.now)) (λ k. number_found c.args.self.now c.args.path.now ≡ Some k)) (sym c.from_residual.ensures) right

pub returns-then-len-gt1 : goal.returns-then-len-gt1
returns-then-len-gt1 c =
    let d : Division = record { tree = c.self.inside.tree.now; units = map (unit_made c.self.inside.tree.now) c.self.inside.parts.value.units.items } in
    let seen : d ≡ c.args.self.now = c.self.view_is in
    let keys = c.self.inside.parts.value.groups.keys in
    let found : position (bytes_eq c.args.path.now) keys ≡ Some c.in_ok-unit.unit = ap (λ (p : Parts). position (bytes_eq c.args.path.now) p.groups.keys) (sym c.deref.ensures) ∙ sym c.get_index_of.ensures.index ∙ c.in_ok-unit.was in
    let within : c.in_ok-unit.unit < length c.self.inside.parts.value.units.items =
    omega (arith, c.in_ok-unit.ensures.within, c.self.invariant.2.each, ap (λ (p : Parts). length p.groups.keys) c.deref.ensures, length-map c.self.inside.parts.value.units.items (unit_made c.self.inside.tree.now)) in
    let same = kept_at d.tree c.self.inside.parts.value.units.items c.in_ok-unit.unit c.index-made.result.now within (c.index-made.ensures ∙ ap (λ (p : Parts). get_or p.units.items c.in_ok-unit.unit c.index-made.result.now) c.deref-2.ensures) in
    let more : 1 < length (unit_at d c.in_ok-unit.unit).packages = subst (λ u. 1 < length u.packages) (sym same) (omega (arith, c.if-len-gt1.true, c.len.ensures)) in
    subst (λ (e : Division). number_found e c.args.path.now ≡ Some c.in_ok-unit.unit) seen (several_found d keys c.in_ok-unit.unit c.args.path.now c.self.invariant.0 c.self.invariant.2 found more)

pub returns : goal.returns
returns c =
    let d : Division = record { tree = c.self.inside.tree.now; units = map (unit_made c.self.inside.tree.now) c.self.inside.parts.value.units.items } in
    let seen : d ≡ c.args.self.now = c.self.view_is in
    let keys = c.self.inside.parts.value.groups.keys in
    let found : position (bytes_eq c.args.path.now) keys ≡ Some c.in_ok-unit.unit = ap (λ (p : Parts). position (bytes_eq c.args.path.now) p.groups.keys) (sym c.deref.ensures) ∙ sym c.get_index_of.ensures.index ∙ c.in_ok-unit.was in
    let within : c.in_ok-unit.unit < length c.self.inside.parts.value.units.items =
    omega (arith, c.in_ok-unit.ensures.within, c.self.invariant.2.each, ap (λ (p : Parts). length p.groups.keys) c.deref.ensures, length-map c.self.inside.parts.value.units.items (unit_made c.self.inside.tree.now)) in
    let same = kept_at d.tree c.self.inside.parts.value.units.items c.in_ok-unit.unit c.index-made.result.now within (c.index-made.ensures ∙ ap (λ (p : Parts). get_or p.units.items c.in_ok-unit.unit c.index-made.result.now) c.deref-2.ensures) in
    let few : length (unit_at d c.in_ok-unit.unit).packages ≤ 1 = subst (λ u. length u.packages ≤ 1) (sym same) (omega (arith, c.if-len-gt1.false, c.len.ensures)) in
    let path = path_found d keys c.args.path.now c.self.invariant.0 c.self.invariant.2
    (λ k there. subst (λ j. length (unit_at d j).packages ≤ 1) (some_same (sym found ∙ there)) few) in
    subst (λ (e : Division). number_found e c.args.path.now ≡ option_and_then (number_of e) (position_of e.tree c.args.path.now)) seen path
