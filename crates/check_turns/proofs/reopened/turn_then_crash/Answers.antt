use Rattle.std.proofs.Common.{◌≡◌, ◌<◌, ◌∙◌, Ok, ap, arith, length, refl, slice_index_or, subst}
use Rattle.node.specs.OnLog.{identity_of, texts_of}
use Rattle.stable_record.specs.History.{History, seen}
use Rattle.stable_record.specs.InMemory.{mem_history}
use Rattle.stable_record.specs.Memory.{left_file}
use Rattle.stable_record.specs.Opening.{Opens}
use Rattle.stable_record.specs.declared.fault_disk.FaultDisk.{FaultDisk}
use Rattle.check_turns.proofs.Crashing.{fault_disk, left_in_memory}
use Rattle.check_turns.proofs.Reopening.{across, fell}
use Rattle.check_turns.proofs.reopened.turn_then_crash.Goals as goal

pub returns-in-Ok : goal.returns-in-Ok
returns-in-Ok g c =
    let old = c.args.cluster in
    let new = c.turn.new.self in
    let arm = c.in-Err-Down in
    let down = fell g.P.Port fault_disk old new c.args.builds.now arm.field-0
    arm.number arm.number arm.field-0-is refl arm.ensures.refused arm.ensures.disks.any_moment in
    let w = c.events-events.ensures.history in
    let inner = c.into_inner.result in
    let file = left_file c.args.left (mem_history inner) in
    let below : arm.number < length c.into_parts-nodes.result.0.items =
    omega (arith, c.if-number-len.false, c.len.ensures) in
    let gone = left_in_memory old new down.0 arm.number down.1 c.swap_remove-node.result
    (subst (λ ns. c.swap_remove-node.result ≡ slice_index_or ns arm.number c.swap_remove-node.result)
    c.into_parts-nodes.ensures.nodes c.swap_remove-node.ensures.value)
    (subst (λ ns. arm.number < length ns) c.into_parts-nodes.ensures.nodes below) inner (c.into_inner.ensures ∙ ap (λ (d : FaultDisk). d.inner) c.into_disk.ensures)
    c.args.left c.crash-disk.ensures.possible in
    let m = c.in-Ok.node.node in (
      new,
      across fault_disk old new down.0 arm.number down.1 down.2
          c.events_lead_to_later_worlds.ensures c.events-events.ensures.on_logs w.0 w.1 file gone
          c.args.tree.now c.args.weights.now c.requires.tree c.requires.weights
          c.in-Ok.ensures.one_answer m c.in-Ok.ensures.node
          (subst (λ (h : History). Opens (identity_of m.member) (seen h) (Ok (texts_of m.notes)))
          c.crash-disk.ensures.left (c.in-Ok.ensures.notes tt)),
    )
