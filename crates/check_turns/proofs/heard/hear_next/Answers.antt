use Rattle.std.proofs.Common.{ap, is_some}
use Rattle.check_turns.proofs.Following.{hears_next}
use Rattle.check_turns.proofs.Idle.{if_nothing}
use Rattle.check_turns.proofs.heard.hear_next.Goals as goal

pub returns-in-Some : goal.returns-in-Some
returns-in-Some g c =
    let old = c.args.cluster.now in
    let mid = c.turn.new.self in
    let new = c.turn-next.new.self in
    let e = c.turn.ensures in
    let f = c.turn-next.ensures in
    let chosen = rw c.in-Some.is at c.in_ok-event.ensures.chosen in
    let happened = rw c.in-Some.is at c.in_ok-event.ensures.happened in
    let kept = rw c.in-Some.is at c.in_ok-event.ensures.kept in
    record {
      heard = hears_next g.P.Port old mid new c.args.first.now c.args.second.now
          c.in-Some.event e.fixed.0 e.fixed.1 chosen happened kept c.turn-next.result f.chosen
          f.nothing f.refused;
      idle = tt;
    }

pub returns-in-None : goal.returns-in-None
returns-in-None g c =
    let old = c.args.cluster.now in
    let mid = c.turn.new.self in
    let e = c.turn.ensures in
    let arm = c.in_ok-event.ensures in
    record {
      heard = tt;
      idle = if_nothing old mid e.fixed.1 e.headline.world.0 e.headline.world.1 g.P.Port
          c.args.first.now c.in_ok-event.field-0 arm.nothing arm.same (ap is_some c.in-None.is);
    }
