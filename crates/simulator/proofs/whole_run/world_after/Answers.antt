use Rattle.std.proofs.lemmas.Grind.{common_steps}
use Rattle.std.proofs.Common.{◌≡◌, ◌∷◌, ◌∙◌, ap, map, arith}
use Rattle.protocol.specs.Events.{event_view}
use Rattle.engine.specs.Division.{Division}
use Rattle.world.proofs.Growth.{event_later}
use Rattle.simulator.proofs.EventByEvent.{one_more}
use Rattle.simulator.proofs.whole_run.world_after.Goals as goal
use Rattle.simulator.specs.History.{taken}

pub events-preserved : goal.events-preserved
events-preserved c =
    let at = c.events in
    let new = c.step_and_keep.new.self in
    let e = c.in-Some.event in
    let then = c.in_default-step_and_keep.ensures in
    let next : at.left ≡ e ∷ c.next.new.self = c.in-Some.ensures in
    let later = event_later at.world.world new.world (event_view e) then.taken in
    record {
      history = then.history.1;
      tree = ap (λ (d : Division). d.tree) later.division ∙ at.invariant.tree;
      weights = later.weights ∙ at.invariant.weights;
      kept = one_more (map event_view c.new-left.result) at.left e c.next.new.self next
          (taken at.world) (taken new) at.invariant.kept then.kept;
    }

pub returns-in-Err-clause-refused : goal.returns-in-Err-clause-refused
returns-in-Err-clause-refused c = grind (arith, common_steps)
