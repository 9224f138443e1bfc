use Rattle.std.proofs.Common.{◌≡◌, ◌∙◌, None, Some, map, option_and_then, ap, sym}
use Rattle.std.proofs.lemmas.Option.{MatchOption-at_none}
use Rattle.listing.specs.Tree.{position_of}
use Rattle.engine.specs.Division.{Division, number_of}
use Rattle.engine.specs.inside.UnitKeeping.{unit_made}
use Rattle.engine.proofs.units.Units.find.Goals as goal

pub returns-in_err-position : goal.returns-in_err-position
returns-in_err-position c =
    let d : Division = record { tree = c.self.inside.tree.now; units = map (unit_made c.self.inside.tree.now) c.self.inside.parts.value.units.items } in
    let seen : d ≡ c.args.self.now = c.self.view_is in
    let none : position_of c.args.self.now.tree c.args.path.now ≡ None =
    sym (ap (λ (e : Division). position_of e.tree c.args.path.now) seen) ∙ sym c.position.ensures ∙ c.in_err-position.was in
    c.from_residual.ensures ∙ sym (MatchOption-at_none _ _ c.in_default.is c.named.ensures ∙ ap (option_and_then (number_of c.args.self.now)) none)

pub returns : goal.returns
returns c =
    let d : Division = record { tree = c.self.inside.tree.now; units = map (unit_made c.self.inside.tree.now) c.self.inside.parts.value.units.items } in
    let seen : d ≡ c.args.self.now = c.self.view_is in
    let some : position_of c.args.self.now.tree c.args.path.now ≡ Some c.in_ok-position.field-0 =
    sym (ap (λ (e : Division). position_of e.tree c.args.path.now) seen) ∙ sym c.position.ensures ∙ c.in_ok-position.was in
    c.unit_of.ensures.number ∙ sym (MatchOption-at_none _ _ c.in_default.is c.named.ensures ∙ ap (option_and_then (number_of c.args.self.now)) some)
