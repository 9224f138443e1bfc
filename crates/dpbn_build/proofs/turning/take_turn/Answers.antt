use Rattle.std.proofs.Common.{option_map}
use Rattle.dpbn_build.proofs.Turns.{turned}
use Rattle.dpbn_build.specs.Turns.{Turn}
use Rattle.dpbn_build.proofs.turning.take_turn.Goals as goal

pub returns : goal.returns
returns g c =
    let seen = c.port-3.ensures.value in
    let took = rw (c.port-2.ensures.value, c.set_hurry.ensures, c.port.ensures.value)
    at c.turn_with-answer.ensures in
    let turn : Turn = record {
      hurry = c.hand_in-made.result.hurry;
      made = option_map (λ b. b.now) c.as_ref.result;
      wish = c.hand_in-made.result.wish;
      answer = c.turn_with-answer.result;
    } in (
      turn,
      rw seen (turned g.D.Disk g.P.Port g.P.BuildPort.noticed g.P.BuildPort.hurried
          c.args.solo.now c.exchange.new.solo _ turn c.exchange.ensures.same
          c.exchange.ensures.exchanged took),
    )
