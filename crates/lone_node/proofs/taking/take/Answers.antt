use Rattle.std.proofs.Common.{◌∙◌, refl}
use Rattle.turn_rules.specs.Acts.{asked_by}
use Rattle.node.proofs.Finishing.{runs}
use Rattle.node.specs.Step.{after, note_in, taken_by}
use Rattle.turn_rules.specs.Unfailed.{notes_held}
use Rattle.lone_node.proofs.Below.{lowered_below, member_stays, still_below, then_below}
use Rattle.lone_node.proofs.Refused.{down_or_else}
use Rattle.lone_node.proofs.taking.take.Goals as goal

pub returns-in-Err-finish-clause-untouched : goal.returns-in-Err-finish-clause-untouched
returns-in-Err-finish-clause-untouched g c =
    down_or_else c.in-Err-finish.fault (λ kept on. c.in-Err-finish.ensures.untouched kept
    (on (runs c.args.node.now.node c.args.readied.ready c.requires.readied.may)))

pub returns-in-Err-clause-below : goal.returns-in-Err-clause-below
returns-in-Err-clause-below g c =
    let s = c.args.node.now.node.member in
    let p = c.args.pending.now in
    still_below s s p c.keep.new.self c.unfailed_after.result refl c.in-Err.ensures.same
    (lowered_below s p (notes_held (note_in c.args.readied.ready.step)) c.args.unfailed.now
    c.unfailed_after.result c.unfailed_after.ensures.value c.requires.below)

pub returns-in-Ok-finish-clause-below : goal.returns-in-Ok-finish-clause-below
returns-in-Ok-finish-clause-below g c =
    let n = c.args.node.now.node in
    let p = c.args.pending.now in
    then_below (after n (taken_by n c.args.readied.ready)) c.finish.new.node.node p
    c.keep.new.self c.me-me.result c.member.result.now (asked_by c.args.readied.act)
    c.unfailed_after.result c.in-Ok.ensures.kept
    (c.unfailed_after.ensures.taken n p c.member.ensures.node.node c.requires.below)
    c.in-Ok-finish.ensures.taken

pub returns-in-Err-finish-clause-below : goal.returns-in-Err-finish-clause-below
returns-in-Err-finish-clause-below g c =
    let s = c.args.node.now.node.member in
    let p = c.args.pending.now in
    still_below s c.finish.new.node.node.member p c.put_back.new.self c.unfailed_after.result
    (member_stays c.args.node.now c.finish.new.node (note_in c.args.readied.ready.step)
    c.in-Err-finish.fault c.in-Err-finish.ensures.refused)
    (c.put_back.ensures ∙ c.in-Ok.ensures.before.0)
    (lowered_below s p (notes_held (note_in c.args.readied.ready.step)) c.args.unfailed.now
    c.unfailed_after.result c.unfailed_after.ensures.value c.requires.below)
