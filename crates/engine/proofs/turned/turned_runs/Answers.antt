use Rattle.std.proofs.Common.{◌≡◌, ◌+◌, ℕ, List, cond, length, nat_eq, subst}
use Rattle.listing.specs.Tree.{run_at}
use Rattle.graph.specs.Lists.{list_at, times}
use Rattle.graph.proofs.Turned.{AreReversed-more}
use Rattle.engine.proofs.turned.turned_runs.Goals as goal

pub loop-position-preserved : goal.loop-position-preserved
loop-position-preserved c =
    let before = c.loop-position.runs in
    let now = c.add.new.self in
    let position = c.loop-position.position in
    AreReversed-more (length c.args.tree.now) position (run_at c.args.tree.now) before now c.loop-position.invariant c.add.ensures.each
    (subst (λ (ps : List ℕ). (d x : ℕ) → times x (list_at now d) ≡ times x (list_at before d) + cond (nat_eq position x) (times d ps) 0) c.run_deps.ensures.value c.in_ok-add.ensures.named)
