use Rattle.std.proofs.Common.{ap, arith, length, sym, ◌∙◌}
use Rattle.std.specs.List.{slice_index_or}
use Rattle.protocol.specs.State.{Value}
use Rattle.member.specs.inside.Digests.{digest_of}
use Rattle.member.proofs.held.Held.digest.Goals as goal

pub returns-in-Some-index : goal.returns-in-Some-index
returns-in-Some-index c r =
    let kept = c.self.invariant c.in-Some.digests c.in-Some.is in
    kept.right c.args.place c.in-Some-index.digest r c.index.result.now
    (omega (arith, kept.each, ap length c.self.view_is, c.requires))
    (sym c.index.ensures ∙ c.in-Some-index.is)
    ∙ ap (λ (v : Value). digest_of (slice_index_or v c.args.place r)) c.self.view_is
