use Rattle.std.proofs.Common.{◌==◌, not, arith, ap, ◌∙◌}
use Rattle.std.proofs.lemmas.Bool.{eq-eqb, ne_eqb}
use Rattle.member.proofs.KeptNumbers.{no_more, none_more_kept, one_more_kept}
use Rattle.member.proofs.receivers.others.Goals as goal
use Rattle.member.proofs.receivers.others.Goals.{then-member-me, else-member-me}

pub push-requires : goal.push-requires
push-requires c =
    let few = c.len-member-end.ensures.few in
    let so_far = no_more (λ k. not (k == c.args.me)) c.loop-member.member
    c.loop-member.members.items c.loop-member.invariant in
    (omega arith, omega (arith, few, so_far))

pub loop-member-preserved : goal.loop-member-preserved
loop-member-preserved c =
    let m = c.loop-member.member in
    let xs = c.loop-member.members.items in
    elim c.if-member-me.branch [
      | then-member-me w ↦ ap (λ v. v.items) w.members-is
          ∙ (w.push.ensures.items
          ∙ one_more_kept (λ k. not (k == c.args.me)) m xs c.loop-member.invariant
          (ap not (ne_eqb m c.args.me w.if-member-me.true)))
      | else-member-me w ↦ ap (λ v. v.items) w.members-is
          ∙ none_more_kept (λ k. not (k == c.args.me)) m xs c.loop-member.invariant
          (ap not (eq-eqb m c.args.me w.if-member-me.false))
    ]
