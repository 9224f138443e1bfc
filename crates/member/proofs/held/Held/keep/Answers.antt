use Rattle.std.proofs.Common.{ap, arith, length, subst, sym, ◌∙◌}
use Rattle.std.specs.List.{slice_index_or}
use Rattle.std.specs.Option.{unwrap_or}
use Rattle.protocol.specs.State.{Value}
use Rattle.member.specs.inside.Digests.{AreDigests, digest_of}
use Rattle.member.proofs.KeptDigests.{one_kept}
use Rattle.member.proofs.held.Held.keep.Goals as goal

pub invariant_of-self : goal.invariant_of-self
invariant_of-self c x is =
    let now = c.self.view_is ∙ c.taken.ensures.same in
    let kept = subst (λ (v : Value). AreDigests c.in_ok-digests.digests.items v) (sym now) c.in_ok-digests.ensures.digests in
    subst (λ o. AreDigests (unwrap_or o x).items c.self.inside.build) is
    (one_kept c.in_ok-digests.digests.items c.self.inside.build c.args.place c.args.digest kept
    (omega (arith, ap length now, c.requires.place))
    (λ r. c.requires.digest r ∙ ap (λ (v : Value). digest_of (slice_index_or v c.args.place r)) (sym now)))
