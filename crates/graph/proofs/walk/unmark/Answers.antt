use Rattle.std.proofs.Common.{◌∙◌, ap, arith, sym}
use Rattle.std.proofs.lemmas.Bool.{both_ways, false_from_ne_true}
use Rattle.std.proofs.lemmas.List.Elements.{Contains-get_or}
use Rattle.graph.specs.Marks.{has_mark}
use Rattle.graph.proofs.Lists.{get_or-same}
use Rattle.graph.proofs.Walks.{found-marked, marked-found}
use Rattle.graph.proofs.Marked.{marked_within}
use Rattle.graph.proofs.walk.unmark.Goals as goal

pub bounds-marks-position : goal.bounds-marks-position
bounds-marks-position c =
    omega (arith, marked_within c.args.marks.now _ (found-marked c.requires _ (Contains-get_or c.args.found.now c.loop-position.position-index 0 c.loop-position-test.true)), c.loop-position.auto.marks)

pub returns : goal.returns
returns c = λ p. false_from_ne_true _ (λ marked.
    let at = marked-found c.requires p (c.loop-position.invariant.fewer p marked) in
    let is = get_or-same c.args.found.now at.0 0 p at.1 ∙ at.2 in
    both_ways _ (ap (has_mark c.loop-position.marks) (sym is) ∙ c.loop-position.invariant.taken at.0 (omega (arith, at.1, c.loop-position-test.false))) marked)
