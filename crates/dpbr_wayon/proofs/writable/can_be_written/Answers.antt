use Rattle.std.proofs.Common.{List, map, subst, arith}
use Rattle.std.proofs.lemmas.List.{take_all}
use Rattle.std.proofs.lemmas.List.Elements.{All-nil}
use Rattle.std.specs.Prelude.{All}
use Rattle.dpbr_wayon.specs.inside.Sound.{IsSound}
use Rattle.dpbr_wayon.proofs.Growing.{all_more, at_this}
use Rattle.protocol.specs.Events.{event_view}
use Rattle.protocol.specs.declared.event.Event as declared
use Rattle.traces.specs.Again.{IsTextEvent}
use Rattle.dpbr_wayon.proofs.writable.can_be_written.Goals as goal

pub loop-event-init : goal.loop-event-init
loop-event-init c = λ sound. All-nil IsTextEvent

pub loop-event-preserved : goal.loop-event-preserved
loop-event-preserved c = λ sound.
    let es = c.args.events.now in
    let i = c.loop-event.event-index in
    let e = c.event-item.result in
    let lt = c.loop-event-test.true in
    all_more event_view IsTextEvent es i e lt c.event-item.is (c.loop-event.invariant sound)
    (c.event_can_be_written.ensures
    (at_this event_view IsSound es i e lt c.event-item.is sound))

pub returns : goal.returns
returns c = λ sound.
    subst (λ (l : List declared.Event). All IsTextEvent (map event_view l))
    (take_all c.loop-event.event-index c.args.events.now
    (omega (arith, c.loop-event-test.false))) (c.loop-event.invariant sound)
