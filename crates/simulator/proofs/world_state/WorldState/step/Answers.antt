use Rattle.std.proofs.Common.{IfOk, arith, subst, sym}
use Rattle.std.proofs.lemmas.Grind.{common_steps}
use Rattle.protocol.specs.Events.{event_view}
use Rattle.protocol.specs.declared.event.Event as declared
use Rattle.simulator.specs.Effects.{Does, StopDoes}
use Rattle.simulator.specs.inside.Standing.{world_of}
use Rattle.simulator.proofs.StepHappens.{stop_does, stop_is_down}
use Rattle.simulator.proofs.world_state.WorldState.step.Goals as goal

pub returns-in-Stop-clause-does : goal.returns-in-Stop-clause-does
returns-in-Stop-clause-does c =
    stop_does c.args.self.now c.args.event.now c.in-Stop.node c.in-Stop.is c.requires.standing
    c.requires.may c.stop.new.nodes c.stop.ensures c.nothing.result c.nothing.ensures

pub returns-in-Stop-clause-standing : goal.returns-in-Stop-clause-standing
returns-in-Stop-clause-standing c =
    (stop_is_down c.args.self.now c.args.event.now c.in-Stop.node c.in-Stop.is c.requires.standing
    c.requires.may c.stop.new.nodes c.stop.ensures).standing

pub returns-in-StopIn-clause-does : goal.returns-in-StopIn-clause-does
returns-in-StopIn-clause-does c =
    subst (λ (e : declared.Event). IfOk c.stop_in.result
    (Does (world_of c.args.self.now) (event_view e) (world_of c.stop_in.new.self)))
    (sym c.in-StopIn.is)
    (subst (λ (e : declared.Event). IfOk c.stop_in.result
    (StopDoes (world_of c.args.self.now) (event_view e) c.in-StopIn.left
    (world_of c.stop_in.new.self))) c.deref.ensures c.stop_in.ensures.does)

pub returns-in-Restart-clause-does : goal.returns-in-Restart-clause-does
returns-in-Restart-clause-does c =
    subst (λ (e : declared.Event). IfOk c.restart.result
    (Does (world_of c.args.self.now) (event_view e) (world_of c.restart.new.self)))
    (sym c.in-Restart.is) c.restart.ensures.does

pub returns-in_default : goal.returns-in_default
returns-in_default c = c.step_node.ensures

pub stop-requires : goal.stop-requires
stop-requires c = grind (arith, common_steps)
