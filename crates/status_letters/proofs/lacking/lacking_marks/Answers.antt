use Rattle.std.proofs.Common.{◌<◌, ℕ, All, List, arith, length, subst, sym}
use Rattle.std.proofs.lemmas.List.Elements.{Contains-get_or}
use Rattle.std.proofs.lemmas.Result.{IfOk-weaker}
use Rattle.graph.specs.Lists.{list_at}
use Rattle.graph.specs.Marks.{has_mark}
use Rattle.graph.specs.Reach.{AreReachedFrom}
use Rattle.graph.proofs.Turned.{named_within}
use Rattle.engine.specs.shared.Marks.{AreMarksOf}
use Rattle.status_letters.specs.inside.Lacking.{AreLacking, AreUnmarked, held_runs}
use Rattle.status_letters.proofs.Reached.{are_lacking}
use Rattle.status_letters.proofs.lacking.lacking_marks.Goals as goal

pub reach_all-requires-clause-listed : goal.reach_all-requires-clause-listed
reach_all-requires-clause-listed c =
    let n = length c.args.tree.now in
    let are = c.in_ok-runs.ensures in
    λ p k d inside. omega (arith, are.each, named_within n n (held_runs c.args.tree.now (has_mark c.args.held.now)) c.in_ok-runs.runs p are k d inside)

pub reach_all-requires-clause-from : goal.reach_all-requires-clause-from
reach_all-requires-clause-from c =
    let unheld = c.in_ok-unheld.unheld.items in
    subst (λ (ps : List ℕ). All (λ p. p < length c.in_ok-runs.runs) ps) (sym c.as_slice.ensures.value)
    (λ k d inside. omega (arith, c.in_ok-runs.ensures.each, c.len-len.ensures.count, ((c.in_ok-unheld.ensures _).0 (Contains-get_or unheld k d inside)).0))

pub returns-clause-lacking : goal.returns-clause-lacking
returns-clause-lacking c =
    let tree = c.args.tree.now in
    let held = c.args.held.now in
    let runs = c.in_ok-runs.runs in
    let unheld = c.in_ok-unheld.unheld.items in
    let found = c.reach_all.new.self.found in
    let reached = subst (λ (ps : List ℕ). AreReachedFrom (list_at runs) ps found) c.as_slice.ensures.value c.reach_all.ensures.reached in
    let unmarked = subst (λ (n : ℕ). AreUnmarked held n unheld) c.len-len.ensures.count c.in_ok-unheld.ensures in
    IfOk-weaker c.marks_of.result (λ marks. AreMarksOf c.len-len.result c.found.result.now marks.items) (λ marks. AreLacking tree (has_mark held) (has_mark marks.items))
    (λ marks are. are_lacking tree c.len-len.ensures.tree held runs unheld found c.in_ok-runs.ensures unmarked reached marks.items
    (subst (λ (ps : List ℕ). AreMarksOf (length tree) ps marks.items) c.found.ensures (subst (λ (n : ℕ). AreMarksOf n c.found.result.now marks.items) c.len-len.ensures.count are)))
    c.marks_of.ensures
