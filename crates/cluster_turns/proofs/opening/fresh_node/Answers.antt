use Rattle.std.proofs.Common.{subst, sym}
use Rattle.turn_rules.specs.declared.fault.TurnFault.{TurnFault}
use Rattle.cluster_turns.proofs.Disks.{fresh_of, not_fresh_of, told_of}
use Rattle.cluster_turns.specs.Starting.{IsOpeningFault}
use Rattle.cluster_turns.proofs.opening.fresh_node.Goals as goal

pub returns-then-log_len-fresh_len-clause-node : goal.returns-then-log_len-fresh_len-clause-node
returns-then-log_len-fresh_len-clause-node g c =
    let is = c.in-Ok.ensures in
    fresh_of g.D.Disk c.args.tree.now
    c.args.weights.now c.args.me c.args.disk c.in-Ok.node is.node is.notes c.log_len.ensures.node
    c.log_len.result c.fresh_len.result c.log_len.ensures.len
    (c.fresh_len.ensures c.args.tree.now c.args.me) is.on_log is.any_moment is.kept
    c.if-log_len-fresh_len.true

pub returns-else-log_len-fresh_len-clause-refused : goal.returns-else-log_len-fresh_len-clause-refused
returns-else-log_len-fresh_len-clause-refused g c =
    let is = c.in-Ok.ensures in
    not_fresh_of g.D.Disk c.args.tree.now
    c.args.weights.now c.args.me c.args.disk c.in-Ok.node is.node is.notes c.log_len.ensures.node
    c.log_len.result c.fresh_len.result c.log_len.ensures.len
    (c.fresh_len.ensures c.args.tree.now c.args.me) c.if-log_len-fresh_len.false

pub returns-in-Err-clause-refused : goal.returns-in-Err-clause-refused
returns-in-Err-clause-refused g c =
    subst (λ (f : TurnFault). IsOpeningFault g.D.Disk
    c.args.tree.now c.args.weights.now c.args.me c.args.disk f) (sym c.told.ensures)
    (told_of g.D.Disk c.args.tree.now
    c.args.weights.now c.args.me c.args.disk c.in-Err.disk c.in-Err.fault c.in-Err.ensures.refused
    c.in-Err.ensures.device)
