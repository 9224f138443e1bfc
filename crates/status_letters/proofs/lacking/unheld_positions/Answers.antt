use Rattle.std.proofs.Common.{◌≡◌, ◌∙◌, ◌+◌, ℕ, ap, arith, sym, subst}
use Rattle.status_letters.specs.inside.Lacking.{AreUnmarked}
use Rattle.status_letters.proofs.Reached.{unmarked_more, unmarked_same}
use Rattle.status_letters.proofs.lacking.unheld_positions.Goals as goal
use Rattle.status_letters.proofs.lacking.unheld_positions.Goals.{then-not-held-position+in_ok-push, else-not-held-position}

pub loop-position-preserved : goal.loop-position-preserved
loop-position-preserved c =
    let held = c.args.held.now in
    let at = c.loop-position in
    elim c.if-not-held-position.branch [
      | then-not-held-position+in_ok-push w ↦
          let is = ap (λ v. v.items) w.unheld-is ∙ w.in_ok-push.ensures.items in
          subst (AreUnmarked held (at.position + 1)) (sym is) (unmarked_more held at.position at.unheld.items at.invariant w.if-not-held-position.true)
      | else-not-held-position w ↦
          let is = ap (λ v. v.items) w.unheld-is in
          subst (AreUnmarked held (at.position + 1)) (sym is) (unmarked_same held at.position at.unheld.items at.invariant w.if-not-held-position.false)
    ]

pub returns : goal.returns
returns c =
    let end : c.loop-position.position ≡ c.args.len = omega (arith, c.loop-position-test.false, c.loop-position.auto.position-end) in
    subst (λ (n : ℕ). AreUnmarked c.args.held.now n c.loop-position.unheld.items) end c.loop-position.invariant
