use Rattle.std.proofs.Common.{◌≡◌, ◌+◌, ℕ, List, cond, nat_eq, subst}
use Rattle.graph.specs.Lists.{list_at, times}
use Rattle.engine.proofs.Dependents.{dependents_more}
use Rattle.engine.proofs.ignored.dependents.Goals as goal

pub loop-position-preserved : goal.loop-position-preserved
loop-position-preserved c =
    let before = c.loop-position.lists in
    let mid = c.add.new.self in
    let now = c.add-in-loop-position.new.self in
    let position = c.loop-position.position in
    dependents_more c.args.tree.now position before mid now c.loop-position.invariant c.add.ensures.each
    (subst (λ (ps : List ℕ). (d x : ℕ) → times x (list_at mid d) ≡ times x (list_at before d) + cond (nat_eq position x) (times d ps) 0) c.build_deps.ensures.value c.in_ok-add.ensures.named)
    c.add-in-loop-position.ensures.each
    (subst (λ (ps : List ℕ). (d x : ℕ) → times x (list_at now d) ≡ times x (list_at mid d) + cond (nat_eq position x) (times d ps) 0) c.run_deps.ensures.value c.in_ok-add-2.ensures.named)
