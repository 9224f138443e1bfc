use Rattle.std.proofs.Common.{◌≡◌, ◌∙◌, ap, false, not, true}
use Rattle.check_turns.proofs.Asked.{in_a_turn}
use Rattle.check_turns.proofs.Going.{any_turn}
use Rattle.check_turns.proofs.Idle.{if_nothing}
use Rattle.check_turns.proofs.run.has_nothing.Goals as goal

pub returns-in-Ok : goal.returns-in-Ok
returns-in-Ok g c =
    let old = c.args.cluster.now in
    let new = c.turn.new.self in
    let e = c.turn.ensures in
    let port = g.P.Port in
    let builds = c.args.builds.now in
    record {
      goes_on = any_turn old new e.fixed.0 e.fixed.1 port builds c.turn.result e.happened e.kept
          e.same e.refused e.left;
      asked = in_a_turn port old new builds c.turn.result e.chosen e.nothing e.refused;
      ended = λ none. if_nothing old new e.fixed.1 e.headline.world.0 e.headline.world.1 port builds
          c.in-Ok.event c.in-Ok.ensures.nothing c.in-Ok.ensures.same
          (c.is_none.ensures ∙ ap not none);
    }

pub returns-in-Err : goal.returns-in-Err
returns-in-Err g c =
    let old = c.args.cluster.now in
    let new = c.turn.new.self in
    let e = c.turn.ensures in
    let port = g.P.Port in
    let builds = c.args.builds.now in
    record {
      goes_on = any_turn old new e.fixed.0 e.fixed.1 port builds c.turn.result e.happened e.kept
          e.same e.refused e.left;
      asked = in_a_turn port old new builds c.turn.result e.chosen e.nothing e.refused;
      ended = λ none. absurd (let no : false ≡ true = none in cc);
    }
