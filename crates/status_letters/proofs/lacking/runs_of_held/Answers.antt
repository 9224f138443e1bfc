use Rattle.std.proofs.Common.{◌≡◌, ◌∙◌, ◌+◌, ℕ, List, cond, length, nat_eq, refl, subst, sym}
use Rattle.graph.specs.Lists.{AreReversed, list_at, times}
use Rattle.graph.specs.Marks.{has_mark}
use Rattle.graph.proofs.Turned.{AreReversed-more}
use Rattle.status_letters.specs.inside.Lacking.{held_runs}
use Rattle.status_letters.proofs.Reached.{none_more, runs_if_held, runs_unless_held}
use Rattle.status_letters.proofs.lacking.runs_of_held.Goals as goal
use Rattle.status_letters.proofs.lacking.runs_of_held.Goals.{then-held-position+in_ok-add, else-held-position}

pub loop-position-preserved : goal.loop-position-preserved
loop-position-preserved c =
    let tree = c.args.tree.now in
    let n = length tree in
    let held = has_mark c.args.held.now in
    let at = c.loop-position in
    let next = held_runs tree held in
    elim c.if-held-position.branch [
      | then-held-position+in_ok-add w ↦
          let now = w.add.new.self in
          let is = w.run_deps.ensures.value ∙ sym (runs_if_held tree held at.position w.if-held-position.true) in
          subst (AreReversed n (at.position + 1) next) (sym w.runs-is)
          (AreReversed-more n at.position next at.runs now at.invariant w.add.ensures.each
          (subst (λ (ps : List ℕ). (d x : ℕ) → times x (list_at now d) ≡ times x (list_at at.runs d) + cond (nat_eq at.position x) (times d ps) 0) is w.in_ok-add.ensures.named))
      | else-held-position w ↦
          subst (AreReversed n (at.position + 1) next) (sym w.runs-is)
          (AreReversed-more n at.position next at.runs at.runs at.invariant refl
          (λ d x. none_more (nat_eq at.position x) _ d (next at.position) (runs_unless_held tree held at.position w.if-held-position.false)))
    ]
