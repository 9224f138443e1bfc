use Rattle.std.proofs.Common.{◌∙◌, ap, sym}
use Rattle.engine.proofs.Dependents.{marked_more, marked_same}
use Rattle.engine.proofs.ignored.marked_packages.Goals as goal
use Rattle.engine.proofs.ignored.marked_packages.Goals.{then-marked+in_ok-push, else-marked}

pub loop-position-preserved : goal.loop-position-preserved
loop-position-preserved c =
    let tree = c.args.tree.now in
    let n = c.loop-position.position in
    let before = c.loop-position.marked.items in
    elim c.if-marked.branch [
      | then-marked+in_ok-push w ↦
          ap (λ v. v.items) w.marked-is ∙ w.in_ok-push.ensures.items ∙ marked_more tree n before c.loop-position.invariant (sym c.marked.ensures ∙ w.if-marked.true)
      | else-marked w ↦ ap (λ v. v.items) w.marked-is ∙ marked_same tree n before c.loop-position.invariant (sym c.marked.ensures ∙ w.if-marked.false)
    ]
