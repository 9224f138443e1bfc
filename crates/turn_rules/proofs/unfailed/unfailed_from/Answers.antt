use Rattle.std.proofs.Common.{◌∙◌, ap, length, subst, sym}
use Rattle.turn_rules.proofs.FailedBelow.{all_failed, failed_below, left_at}
use Rattle.turn_rules.specs.Unfailed.{AllFailedBelow}
use Rattle.turn_rules.proofs.unfailed.unfailed_from.Goals as goal

pub returns-in-Some-clause-below : goal.returns-in-Some-clause-below
returns-in-Some-clause-below c =
    failed_below c.args.member.now c.args.pending.now c.in-Some.position c.in-Some.ensures

pub returns-in-Some-clause-unfailed : goal.returns-in-Some-clause-unfailed
returns-in-Some-clause-unfailed c = λ lt.
    left_at c.args.member.now c.args.pending.now c.in-Some.position c.in-Some.ensures

pub returns-in-None-clause-below : goal.returns-in-None-clause-below
returns-in-None-clause-below c =
    subst (AllFailedBelow c.args.member.now c.args.pending.now)
    (sym (c.len.ensures.count ∙ ap length c.tree.ensures))
    (all_failed c.args.member.now c.args.pending.now c.in-None.ensures)
