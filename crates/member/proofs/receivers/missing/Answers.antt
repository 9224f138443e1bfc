use Rattle.std.proofs.Common.{not, arith, ap, sym, ◌∙◌}
use Rattle.ballots.specs.Support.{set_of}
use Rattle.member.proofs.KeptNumbers.{no_more, none_more_kept, one_more_kept}
use Rattle.member.proofs.receivers.missing.Goals as goal
use Rattle.member.proofs.receivers.missing.Goals.{then-not-has, else-not-has}

pub push-requires : goal.push-requires
push-requires c =
    let few = c.len-member-end.ensures.few in
    let so_far = no_more (λ k. not (set_of c.args.tally.now k)) c.loop-member.member
    c.loop-member.members.items c.loop-member.invariant in
    (omega arith, omega (arith, few, so_far))

pub loop-member-preserved : goal.loop-member-preserved
loop-member-preserved c =
    let m = c.loop-member.member in
    let xs = c.loop-member.members.items in
    elim c.if-not-has.branch [
      | then-not-has w ↦ ap (λ v. v.items) w.members-is
          ∙ (w.push.ensures.items
          ∙ one_more_kept (λ k. not (set_of c.args.tally.now k)) m xs c.loop-member.invariant
          (ap not (sym c.has.ensures ∙ w.if-not-has.true)))
      | else-not-has w ↦ ap (λ v. v.items) w.members-is
          ∙ none_more_kept (λ k. not (set_of c.args.tally.now k)) m xs c.loop-member.invariant
          (ap not (sym c.has.ensures ∙ w.if-not-has.false))
    ]
