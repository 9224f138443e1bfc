use Rattle.std.proofs.Common.{List, map, subst, sym}
use Rattle.protocol.specs.Events.{event_view}
use Rattle.protocol.specs.declared.event.Event as declared
use Rattle.ways_on.specs.Ways.{IsWay}
use Rattle.check_worlds.specs.Stops.{HasTaken}
use Rattle.check_worlds.proofs.going.arrive.Goals as goal

pub returns-in-Ok-go-clause-arrived : goal.returns-in-Ok-go-clause-arrived
returns-in-Ok-go-clause-arrived c =
    let h = c.args.world.now in
    let told = c.in-Ok.ensures.way in
    let same = c.as_slice.ensures.value in
    record {
      granted = c.in-Ok.ensures.granted;
      way = map event_view c.in-Ok.way.items;
      is_way = told;
      has_taken = subst (λ (es : List declared.Event). HasTaken h (map event_view es) c.go.new.world)
          same c.in-Ok-go.ensures.taken;
      holds = c.in-Ok-go.ensures.held told.unit
          (subst (λ (es : List declared.Event). IsWay h.world c.args.node told.unit (map event_view es))
          (sym same) told.is_way);
    }
