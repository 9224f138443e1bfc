use Rattle.std.proofs.Common.{◌∙◌, sym}
use Rattle.lone_node.proofs.Done.{done_part, done_refused}
use Rattle.lone_node.proofs.choosing.done.Goals as goal

pub returns-in-Ok-clause-part : goal.returns-in-Ok-clause-part
returns-in-Ok-clause-part g c =
    done_part c.args.node.now c.args.pending.now c.args.me c.requires.me
    (sym c.is_stopped.ensures ∙ c.if-is_stopped.false) c.above.result c.above.ensures
    c.args.initiative c.in-Ok.readied c.in-Ok.ensures.part

pub returns-in-Err-clause-refused : goal.returns-in-Err-clause-refused
returns-in-Err-clause-refused g c =
    done_refused c.args.node.now c.args.pending.now c.args.me c.requires.me
    (sym c.is_stopped.ensures ∙ c.if-is_stopped.false) c.above.result c.above.ensures
    c.args.initiative c.told.result c.in-Err.fault c.told.ensures c.in-Err.ensures.refused
