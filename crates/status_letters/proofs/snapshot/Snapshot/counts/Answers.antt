use Rattle.std.proofs.Common.{◌∙◌, ap, subst}
use Rattle.engine.specs.State.{AreCounts, State, counts_of}
use Rattle.status_letters.proofs.Told.{are_counts}
use Rattle.status_letters.proofs.snapshot.Snapshot.counts.Goals as goal

pub returns : goal.returns
returns c =
    let is = c.counts_of.ensures ∙ ap counts_of c.as_slice.ensures.value in
    subst (λ (s : State). AreCounts s c.counts_of.result) c.self.view_is (rw is (are_counts c.self.invariant))
