use Rattle.std.proofs.Common.{◌+◌, List, drop, map, take, ap, subst, sym, arith}
use Rattle.std.proofs.lemmas.List.{take_all}
use Rattle.std.proofs.lemmas.Result.{err_from_is_err_and}
use Rattle.protocol.specs.Events.{Event, event_view}
use Rattle.simulator.specs.History.{History, taken}
use Rattle.check_worlds.specs.Stops.{HasTaken, StopsAt}
use Rattle.check_worlds.proofs.Taking.{for_room, in_parts, one_more}
use Rattle.check_worlds.proofs.going.go.Goals as goal

pub loop-event-preserved : goal.loop-event-preserved
loop-event-preserved c =
    one_more c.args.world.now c.loop-event.world c.step.new.self
    c.args.events.now c.loop-event.event-index c.event-item.result c.loop-event-test.true
    c.event-item.is c.loop-event.invariant c.in_ok-step.ensures.taken c.in_ok-step.ensures.kept

pub returns-clause-taken : goal.returns-clause-taken
returns-clause-taken c =
    let es = c.args.events.now in
    subst (λ (l : List Event). HasTaken c.args.world.now l c.loop-event.world)
    (ap (map event_view) (take_all c.loop-event.event-index es
    (omega (arith, c.loop-event-test.false)))) c.loop-event.invariant

pub returns-clause-held : goal.returns-clause-held
returns-clause-held c = λ u way.
    let w = c.args.world.now in
    let es = c.args.events.now in
    let arrives = c.ways_arrive.ensures w.world.division w.world.weights (taken w) w.world
    c.args.node u (map event_view es) c.requires.history.made c.requires.history.led way in
    let all = subst (λ (l : List Event). HasTaken w l c.loop-event.world)
    (ap (map event_view) (take_all c.loop-event.event-index es
    (omega (arith, c.loop-event-test.false)))) c.loop-event.invariant in
    arrives.held c.loop-event.world.world all.led

pub returns-in_err-step-clause-stopped : goal.returns-in_err-step-clause-stopped
returns-in_err-step-clause-stopped c =
    let w = c.args.world.now in
    let es = c.args.events.now in
    let i = c.loop-event.event-index in
    let e = c.event-item.result in
    let p = err_from_is_err_and c.from_residual.result c.from_residual.ensures.1 in
    let u = c.requires.way.0 in
    let arrives = c.ways_arrive.ensures w.world.division w.world.weights (taken w) w.world
    c.args.node u (map event_view es) c.requires.history.made c.requires.history.led
    c.requires.way.1 in
    let parts = in_parts es i e c.loop-event-test.true c.event-item.is in
    let f = c.in_err-step.field-0.0 in
    rw (p.1, p.2)
    (subst (λ (h : History). StopsAt w (map event_view es) h f) (sym c.in_err-step.ensures.same)
    (record {
      before = map event_view (take i es);
      event = event_view e;
      behind = map event_view (drop (i + 1) es);
      among = parts;
      has_taken = c.loop-event.invariant;
      refused = for_room c.loop-event.world.world (event_view e) f c.in_err-step.ensures.refused
          (arrives.refused c.loop-event.world.world (map event_view (take i es))
          (map event_view (drop (i + 1) es)) (event_view e) f parts c.loop-event.invariant.led);
    }))
