use Rattle.protocol.specs.Events.{event_view}
use Rattle.simulator.proofs.Following.{has_one_list, is_safe}
use Rattle.simulator.proofs.StepHistory.{alike_so, later_so}
use Rattle.simulator.proofs.running_world.World.step.Goals as goal

pub returns-clause-fixed : goal.returns-clause-fixed
returns-clause-fixed c =
    let later = later_so c.args.self.now c.step_copy.new.self (event_view c.args.event.now)
    c.step_copy.result c.step_copy.ensures.taken c.step_copy.ensures.same in
    (later.division, later.weights)

pub returns-clause-grows : goal.returns-clause-grows
returns-clause-grows c = (later_so c.args.self.now c.step_copy.new.self
    (event_view c.args.event.now) c.step_copy.result c.step_copy.ensures.taken
    c.step_copy.ensures.same).agreed

pub returns-clause-alike : goal.returns-clause-alike
returns-clause-alike c = alike_so c.args.self.now c.step_copy.new.self
    c.step_copy.ensures.history.0 c.step_copy.ensures.history.1
    (later_so c.args.self.now c.step_copy.new.self (event_view c.args.event.now)
    c.step_copy.result c.step_copy.ensures.taken c.step_copy.ensures.same).agreed

pub returns-clause-one_list : goal.returns-clause-one_list
returns-clause-one_list c = has_one_list c.step_copy.new.self c.step_copy.ensures.history.1

pub returns-clause-safe : goal.returns-clause-safe
returns-clause-safe c = is_safe c.step_copy.new.self c.step_copy.ensures.history.1
