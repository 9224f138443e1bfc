use Rattle.protocol.specs.Events.{event_view}
use Rattle.simulator.proofs.Taking.{ready_on_log, refused_on_log, refuses_step, takes_step}
use Rattle.simulator.proofs.node_steps.step_node.Goals as goal

pub returns-in_err-ready-clause-on_log : goal.returns-in_err-ready-clause-on_log
returns-in_err-ready-clause-on_log c =
    refused_on_log c.args.tables.now.sent (event_view c.args.event.now) c.args.node.now
    c.prepare_step.new.node c.in_err-ready.field-0.0 c.in_err-ready.ensures.step
    c.in_err-ready.ensures.log c.requires.on_log

pub finish_step-requires-clause-on_log : goal.finish_step-requires-clause-on_log
finish_step-requires-clause-on_log c =
    ready_on_log c.args.tables.now.sent (event_view c.args.event.now) c.args.node.now
    c.prepare_step.new.node c.in_ok-ready.ready c.in_ok-ready.ensures.step c.in_ok-ready.ensures.log
    c.requires.on_log

pub returns-in-Ok-clause-taken : goal.returns-in-Ok-clause-taken
returns-in-Ok-clause-taken c =
    takes_step c.args.weights.now (event_view c.args.event.now) c.args.tables.now
    c.finish_step.new.tables c.args.node.now c.prepare_step.new.node c.finish_step.new.node
    c.in_ok-ready.ready c.in-Ok.done c.in_ok-ready.ensures.step c.in_ok-ready.ensures.log
    c.in-Ok.ensures.taken

pub returns-in-Err-clause-refused : goal.returns-in-Err-clause-refused
returns-in-Err-clause-refused c =
    refuses_step c.args.tables.now.sent (event_view c.args.event.now) c.args.node.now
    c.prepare_step.new.node c.finish_step.new.node c.in_ok-ready.ready c.in-Err.fault
    c.in_ok-ready.ensures.step c.in_ok-ready.ensures.log c.in-Err.ensures.same
    c.in-Err.ensures.refused
