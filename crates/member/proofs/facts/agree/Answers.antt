use Rattle.std.proofs.Common.{ap, subst, ◌∙◌, slice_index_or}
use Rattle.engine.specs.Ignored.{IsIgnored}
use Rattle.member.proofs.UnitPackages.{not_ignored}
use Rattle.member.proofs.facts.agree.Goals as goal

pub agree-requires-clause-not_ignored : goal.agree-requires-clause-not_ignored
agree-requires-clause-not_ignored c =
    let ps = c.packages-position-items.result.now in
    let k = c.loop-position.position-index in
    let tree = ap (λ e. e.tree) c.loop-position.invariant ∙ c.requires.tree in
    λ h. not_ignored c.args.units.now c.args.unit k ps c.len.ensures.division c.requires.unit
    c.packages-position-items.ensures.value c.loop-position-test.true
    (subst (λ t. IsIgnored t (slice_index_or ps k 0)) tree h.1)
