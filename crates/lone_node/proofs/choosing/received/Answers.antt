use Rattle.lone_node.proofs.Coming.{has_come, none_came}
use Rattle.lone_node.proofs.choosing.received.Goals as goal

pub returns-in-Ok-clause-came : goal.returns-in-Ok-clause-came
returns-in-Ok-clause-came g c =
    has_come g.P.Port c.args.port.now c.receive.new.self
    c.receive.result c.in-Ok.came c.in-Ok.is c.receive.ensures.given c.receive.ensures.does
    c.receive.ensures.vouched

pub returns-in-Err-clause-came : goal.returns-in-Err-clause-came
returns-in-Err-clause-came g c =
    none_came g.P.Port c.args.port.now c.receive.new.self
    c.receive.result c.in-Err.field-0 c.in-Err.is c.receive.ensures.given c.receive.ensures.does
