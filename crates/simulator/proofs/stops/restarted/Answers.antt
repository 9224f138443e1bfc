use Rattle.std.proofs.Common.{◌∙◌, IfOk, append-nil, ap, subst, sym}
use Rattle.simulator.proofs.stops.restarted.Goals as goal
use Rattle.simulator.specs.inside.Opening.{HasNode, IsNodeOf}
use Rattle.simulator.specs.inside.Standing.{disk_of, file_of}
use Rattle.stable_record.specs.History.{seen}

pub opened-requires-clause-node : goal.opened-requires-clause-node
opened-requires-clause-node c =
    let file = ap seen c.in_ok-disk.ensures ∙ append-nil (file_of (disk_of c.args.slot.now)) in
    subst (HasNode c.args.tree.now c.args.weights.now c.args.me) (sym file) c.requires.node

pub returns : goal.returns
returns c =
    let file = ap seen c.in_ok-disk.ensures ∙ append-nil (file_of (disk_of c.args.slot.now)) in
    subst (λ f. IfOk c.opened.result (IsNodeOf c.args.tree.now c.args.weights.now c.args.me f)) file
    c.opened.ensures
