use Rattle.std.proofs.Common.{◌≡◌, ◌∙◌, ap, arith, length}
use Rattle.std.proofs.lemmas.List.Elements.{Contains-get_or}
use Rattle.graph.specs.Marks.{has_mark}
use Rattle.graph.proofs.Marked.{marked_within}
use Rattle.graph.proofs.Turned.{named_within}
use Rattle.graph.proofs.Walks.{AreFound-none, found-marked, marked-found}
use Rattle.engine.proofs.Sifting.{found_within, marked_before, one_if-most}
use Rattle.engine.proofs.search.Search.settle.Goals as goal

pub gather-requires-clause-found : goal.gather-requires-clause-found
gather-requires-clause-found c = rw (c.as_mut_slice-marks.ensures.value, c.clear.ensures.items) (AreFound-none _ c.self.invariant.unmarked)

pub gather-requires-clause-listed : goal.gather-requires-clause-listed
gather-requires-clause-listed c = λ p. named_within (length c.args.runs.now) (length c.args.runs.now) c.requires.turned.0 c.args.runs.now p c.requires.turned.1

pub sift-requires-clause-some : goal.sift-requires-clause-some
sift-requires-clause-some c =
    let gathered = c.gather.ensures.gathered in
    λ p inside. rw c.as_slice.ensures.value (c.requires.some p c.gather.new.found.items (omega (arith, inside, c.requires.lacks))
    (λ q. omega (arith, gathered.are_found.once q, one_if-most (has_mark c.gather.new.marks q)))
    (λ q listed. gathered.built q (found-marked gathered.are_found q listed)))

pub unmark-requires-clause-within : goal.unmark-requires-clause-within
unmark-requires-clause-within c =
    let gathered = c.gather.ensures.gathered in
    rw c.as_slice-2.ensures.value (λ k d inside.
    omega (arith, c.sift.auto.marks, marked_within c.gather.new.marks _ (found-marked gathered.are_found _ (Contains-get_or c.gather.new.found.items k d inside))))

pub unmark-requires-clause-only : goal.unmark-requires-clause-only
unmark-requires-clause-only c =
    rw c.as_slice-2.ensures.value (λ p marked. marked-found c.gather.ensures.gathered.are_found p
    (marked_before c.gather.new.marks c.sift.new.marks c.sift.new.dropped.items c.sift.ensures.sifted.parted p marked))

pub returns-clause-within : goal.returns-clause-within
returns-clause-within c =
    let each : length c.gather.new.marks ≡ length c.args.runs.now =
    c.gather.auto.marks ∙ ap length c.as_mut_slice-marks.ensures.value ∙ ap (λ w. w.len) c.self.view_is ∙ c.requires.each in
    found_within c.args.runs.now c.gather.new.found.items c.gather.new.marks c.gather.ensures.gathered.are_found each
