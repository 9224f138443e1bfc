use Rattle.std.proofs.Common.{◌∙◌, ◌++◌, ◌∷◌, [], List, ap, arith, map, refl, subst, sym, take}
use Rattle.std.proofs.lemmas.List.{map_more, take_all}
use Rattle.engine.specs.Division.{Division}
use Rattle.protocol.specs.Events.{Event, event_view}
use Rattle.dpbr_run.specs.Events.{HasEventLines}
use Rattle.dpbr_run.proofs.EventLines.{no_lines, stops_at, takes_more}
use Rattle.dpbr_run.proofs.events.run_telling.Goals as goal
use Rattle.simulator.specs.History.{taken}
use Rattle.world.specs.World.{World, start}

pub events-init : goal.events-init
events-init c =
    let h = c.in-Ok.world in
    record {
      history = c.in-Ok.ensures.history;
      tree = refl;
      weights = refl;
      kept = ap (map event_view) c.in-Ok.ensures.events;
      lines = subst (HasEventLines (start h.world.division h.world.weights) 1 (taken h) h.world) (sym c.new-text.ensures.items)
          (no_lines h c.args.weights.now c.in-Ok.ensures.events c.in-Ok.ensures.world);
    }

pub events-preserved : goal.events-preserved
events-preserved c =
    let at = c.events in
    let e = c.event-item.result in
    let i = at.event-index in
    let events = c.args.events.now in
    let then = c.in_default-take_telling.ensures.taken in
    record {
      history = then.is;
      tree = ap (λ (d : Division). d.tree) then.fixed.0 ∙ at.invariant.tree;
      weights = then.fixed.1 ∙ at.invariant.weights;
      kept = then.kept ∙ ap (λ (es : List Event). es ++ event_view e ∷ []) at.invariant.kept
          ∙ ap (λ x. map event_view (take i events) ++ event_view x ∷ []) c.event-item.is
          ∙ sym (map_more event_view events i e c.events-test.true);
      lines = takes_more at.world c.take_telling.new.world (event_view e) at.text.items c.take_telling.new.text.items then at.invariant.lines;
    }

pub returns-in-Err-clause-refused : goal.returns-in-Err-clause-refused
returns-in-Err-clause-refused c =
    let at = c.events in
    stops_at c.args.events.now at.event-index c.event-item.result c.events-test.true c.event-item.is c.args.tree.now
    c.args.weights.now at.world (at.invariant.tree ∙ c.in-Ok.ensures.tree) (at.invariant.weights ∙ ap (λ (v : World). v.weights) c.in-Ok.ensures.world) at.invariant.kept c.in-Err.fault
    c.in-Err.ensures.refused

pub returns-clause-kept : goal.returns-clause-kept
returns-clause-kept c =
    c.events.invariant.kept
    ∙ ap (map event_view) (take_all c.events.event-index c.args.events.now (omega (arith, c.events-test.false)))
