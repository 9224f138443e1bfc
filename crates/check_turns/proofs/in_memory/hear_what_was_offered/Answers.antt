use Rattle.std.proofs.Common.{Ok, Some}
use Rattle.protocol.specs.Events.{event_view}
use Rattle.check_turns.proofs.Going.{one_happened}
use Rattle.check_turns.proofs.InMemory.{turns_in_memory}
use Rattle.check_turns.proofs.Offered.{hears_offered}
use Rattle.check_turns.proofs.Sending.{event_steps, sends_known}
use Rattle.check_turns.proofs.in_memory.hear_what_was_offered.Goals as goal

pub returns-in-Some : goal.returns-in-Some
returns-in-Some g c =
    let old = c.args.cluster.now in
    let mid = c.turn.new.self in
    let new = c.turn-next.new.self in
    let event = c.in-Some.event in
    let e = c.turn.ensures in
    let chosen = rw c.in-Some.is at c.in_ok-event.ensures.chosen in
    let happened = rw c.in-Some.is at c.in_ok-event.ensures.happened in
    let kept = rw c.in-Some.is at c.in_ok-event.ensures.kept in
    let calls = rw c.in-Some.is at c.in_ok-event.ensures.calls in
    let w = c.events-events.ensures.history in
    hears_offered old mid new c.args.first.now c.args.second.now event c.turn-next.result c.requires
    (turns_in_memory old mid c.args.first.now (Ok (Some event)) calls)
    (turns_in_memory mid new c.args.second.now c.turn-next.result c.turn-next.ensures.calls)
    (one_happened old mid e.fixed.0 e.fixed.1 (event_view event) kept happened)
    (sends_known old mid event
    (event_steps old.sent chosen.chosen.0 chosen.chosen.1 (event_view event) chosen.event) happened)
    w.0 w.1
