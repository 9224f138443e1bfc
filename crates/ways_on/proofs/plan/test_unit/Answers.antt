use Rattle.std.proofs.Common.{◌≡◌, ℕ, List, slice_index_or, None, Some, sym, ap, subst, ◌∙◌}
use Rattle.engine.specs.State as engines
use Rattle.engine.specs.declared.Letter.TheVariants as letters
use Rattle.protocol.specs.State.{engine_of}
use Rattle.protocol.specs.Step.{IsLetterOf}
use Rattle.engine.specs.Division.{number_found, unit_at}
use Rattle.ways_on.specs.Asked.{refusal_at}
use Rattle.ways_on.proofs.Planning.{not_queued, refused_letter}
use Rattle.ways_on.proofs.Seen.{node_up}
use Rattle.ways_on.proofs.plan.test_unit.Goals as goal
use Rattle.world.specs.World.{member_at}

pub returns-in_default-clause-refused : goal.returns-in_default-clause-refused
returns-in_default-clause-refused c = λ host given.
    let w = c.args.world.now.world in
    let k = c.args.node in
    let path = c.args.path.now in
    let n = node_up w k c.requires.up in
    let none : number_found w.division path ≡ None =
    ap (λ d. number_found d path) (sym c.units-units.ensures) ∙ sym c.in_default.ensures in
    record {
      node = n.0;
      stands = n.1;
      up = n.2;
      letter = letters.T;
      shown = subst (λ o. IsLetterOf (member_at w k n.0) o letters.T) (sym none) tt;
      tested_is = ap (λ f. Some f) (c.stranger.ensures n.0 n.1)
          ∙ ap (refusal_at w (member_at w k n.0) letters.T path host given) (sym none);
    }

pub returns-in_default-letter : goal.returns-in_default-letter
returns-in_default-letter c =
    let w = c.args.world.now.world in
    let k = c.args.node in
    let path = c.args.path.now in
    let n = node_up w k c.requires.up in
    let s = member_at w k n.0 in
    let unit = c.in-Some.unit in
    let named : number_found w.division path ≡ Some unit =
    ap (λ d. number_found d path) (sym c.units-units.ensures) ∙ sym c.in-Some.ensures in
    let letter = c.letter.result in
    let shown = c.letter.ensures n.0 n.1 in
    record {
      shown = tt;
      refused = λ host given. record {
        node = n.0;
        stands = n.1;
        up = n.2;
        letter = letter;
        shown = subst (λ o. IsLetterOf s o letter) (sym named)
            (subst (λ (ps : List ℕ). engines.HasLetter (engine_of s) (slice_index_or ps 0 0) letter)
            (c.packages.ensures.value ∙ ap (λ d. (unit_at d unit).packages) c.units-units.ensures)
            shown);
        tested_is = sym (refused_letter w s letter host given unit
            (not_queued letter c.in_default-letter.not-Q))
            ∙ ap (refusal_at w s letter path host given) (sym named);
      };
    }
