use Rattle.std.proofs.Common.{◌≡◌, ◌<◌, ◌∙◌, ℕ, All, List, arith, length, subst, sym, vec_len}
use borrow.Author.Tests.{eqb-true}
use Rattle.std.proofs.lemmas.Result.{IfOk-weaker}
use Rattle.graph.specs.Lists.{list_at}
use Rattle.graph.specs.Reach.{AreReachedFrom}
use Rattle.graph.proofs.Turned.{named_within}
use Rattle.engine.specs.shared.Marks.{AreIgnored, AreMarksOf, deps_at}
use Rattle.engine.proofs.Dependents.{found_ignored, marked_listed, none_ignored}
use Rattle.engine.proofs.ignored.ignored_marks.Goals as goal

pub returns-then-is_empty : goal.returns-then-is_empty
returns-then-is_empty c =
    let tree = c.args.tree.now in
    let empty : vec_len c.in_ok-marked.marked ≡ 0 = eqb-true _ _ (sym c.is_empty.ensures ∙ c.if-is_empty.true) in
    let none : length c.as_slice.result.now ≡ 0 = omega (arith, empty, c.as_slice.ensures.len) in
    IfOk-weaker c.marks_of.result (λ marks. AreMarksOf c.len.result c.as_slice.result.now marks.items) (λ marks. AreIgnored tree marks.items)
    (λ marks are. none_ignored tree c.as_slice.result.now marks.items (c.as_slice.ensures.value ∙ c.in_ok-marked.ensures) none (subst (λ n. AreMarksOf n c.as_slice.result.now marks.items) c.len.ensures.count are))
    c.marks_of.ensures

pub reach_all-requires-clause-listed : goal.reach_all-requires-clause-listed
reach_all-requires-clause-listed c =
    let n = length c.args.tree.now in
    let are = c.in_ok-dependents.ensures in
    λ p k d inside. omega (arith, are.each, named_within n n (deps_at c.args.tree.now) c.in_ok-dependents.dependents p are k d inside)

pub reach_all-requires-clause-from : goal.reach_all-requires-clause-from
reach_all-requires-clause-from c =
    let is = c.as_slice-2.ensures.value ∙ c.in_ok-marked.ensures in
    subst (λ (ps : List ℕ). All (λ p. p < length c.in_ok-dependents.dependents) ps) (sym is)
    (λ k d inside. omega (arith, c.in_ok-dependents.ensures.each, marked_listed c.args.tree.now k d inside))

pub returns : goal.returns
returns c =
    let tree = c.args.tree.now in
    let lists = c.in_ok-dependents.dependents in
    let found = c.reach_all.new.self.found in
    let is = c.as_slice-2.ensures.value ∙ c.in_ok-marked.ensures in
    let reached = subst (λ (ps : List ℕ). AreReachedFrom (list_at lists) ps found) is c.reach_all.ensures.reached in
    IfOk-weaker c.marks_of-2.result (λ marks. AreMarksOf c.len-3.result c.found.result.now marks.items) (λ marks. AreIgnored tree marks.items)
    (λ marks are. found_ignored tree c.len-2.ensures.tree c.in_ok-dependents.ensures found reached marks.items
    (subst (λ (ps : List ℕ). AreMarksOf (length tree) ps marks.items) c.found.ensures (subst (λ n. AreMarksOf n c.found.result.now marks.items) c.len-3.ensures.count are)))
    c.marks_of-2.ensures
