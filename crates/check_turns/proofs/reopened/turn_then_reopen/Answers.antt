use Rattle.stable_record.specs.History.{seen}
use Rattle.check_turns.proofs.Reopening.{across, fell}
use Rattle.check_turns.proofs.reopened.turn_then_reopen.Goals as goal

pub returns-in-Ok : goal.returns-in-Ok
returns-in-Ok g c = λ kept gone.
    let old = c.args.cluster.now in
    let new = c.turn.new.self in
    let arm = c.in-Err-Down in
    let down = fell g.P.Port g.D.Disk old new c.args.builds.now arm.field-0 arm.node
    c.args.me arm.field-0-is c.if-node-me.false arm.ensures.refused arm.ensures.disks.any_moment in
    let w = c.events-events.ensures.history in
    across g.D.Disk old new down.0 c.args.me down.1 down.2
    c.events_lead_to_later_worlds.ensures c.requires.on_logs w.0 w.1
    (seen (g.E.Disk.history c.args.left)) gone c.args.tree.now c.args.weights.now c.requires.tree
    c.requires.weights c.in-Ok.ensures.one_answer c.in-Ok.node.node c.in-Ok.ensures.node
    (c.in-Ok.ensures.notes kept)
