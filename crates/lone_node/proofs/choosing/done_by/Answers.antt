use Rattle.std.proofs.Common.{refl, sym}
use Rattle.lone_node.proofs.Below.{still_below}
use Rattle.lone_node.proofs.Done.{own_prepareds, own_unprepareds, scheduled_prepareds, scheduled_unprepareds}
use Rattle.lone_node.proofs.choosing.done_by.Goals as goal

pub unfailed_from-requires : goal.unfailed_from-requires
unfailed_from-requires g c =
    still_below c.args.node.now.node.member c.member.result.now c.args.pending.now
    c.args.pending.now c.args.unfailed.now c.member.ensures.member refl c.requires.below

pub own_from-requires-clause-below : goal.own_from-requires-clause-below
own_from-requires-clause-below g c =
    still_below c.member.result.now c.args.node.now.node.member c.args.pending.now
    c.args.pending.now c.unfailed_from.result (sym c.member.ensures.member) refl
    c.unfailed_from.ensures.below

pub returns-in-Own-clause-part : goal.returns-in-Own-clause-part
returns-in-Own-clause-part g c =
    own_prepareds c.args.node.now c.args.pending.now c.args.above c.args.initiative c.in-Own.is
    c.own_from.new.node c.own_from.ensures.same c.own_from.result c.own_from.ensures.part

pub returns-in-Own-clause-refused : goal.returns-in-Own-clause-refused
returns-in-Own-clause-refused g c =
    own_unprepareds c.args.node.now c.args.pending.now c.args.above c.args.initiative
    c.in-Own.is c.own_from.new.node c.own_from.ensures.same c.own_from.result
    c.own_from.ensures.refused

pub returns-in-Own-clause-below : goal.returns-in-Own-clause-below
returns-in-Own-clause-below g c =
    still_below c.member.result.now c.args.node.now.node.member c.args.pending.now
    c.args.pending.now c.unfailed_from.result (sym c.member.ensures.member) refl
    c.unfailed_from.ensures.below

pub returns-in-Scheduled-clause-part : goal.returns-in-Scheduled-clause-part
returns-in-Scheduled-clause-part g c =
    scheduled_prepareds c.args.node.now c.args.pending.now c.args.above c.args.initiative
    c.in-Scheduled.wish c.in-Scheduled.is c.do_scheduled.result c.do_scheduled.ensures.part

pub returns-in-Scheduled-clause-refused : goal.returns-in-Scheduled-clause-refused
returns-in-Scheduled-clause-refused g c =
    scheduled_unprepareds c.args.node.now c.args.pending.now c.args.above c.args.initiative
    c.in-Scheduled.wish c.in-Scheduled.is c.do_scheduled.result
    c.do_scheduled.ensures.refused
