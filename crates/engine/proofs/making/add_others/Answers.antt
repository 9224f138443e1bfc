use Rattle.std.proofs.Common.{get_or, ◌∙◌, ap, sym}
use Rattle.engine.proofs.OneUnit.{add_other, found_own, skip_own}
use Rattle.engine.proofs.making.add_others.Goals as goal
use Rattle.engine.proofs.making.add_others.Goals.{then-is_err+in_ok-push, else-is_err}

pub loop-position-preserved : goal.loop-position-preserved
loop-position-preserved c =
    let own = c.args.packages.now in
    let ps = c.args.positions.now in
    let k = c.loop-position.position-index in
    let test = sym (found_own own (get_or ps k 0) c.binary_search.result c.requires c.binary_search.ensures.position) ∙ sym c.is_err.ensures.value in
    elim c.if-is_err.branch [
      | then-is_err+in_ok-push w ↦
          add_other own ps c.args.needed.now.items c.loop-position.needed.items c.if-is_err.needed.items k c.loop-position-test.true c.loop-position.invariant
          (test ∙ w.if-is_err.true) (ap (λ v. v.items) w.needed-is ∙ w.in_ok-push.ensures.items)
      | else-is_err w ↦
          skip_own own ps c.args.needed.now.items c.loop-position.needed.items c.if-is_err.needed.items k c.loop-position-test.true c.loop-position.invariant
          (test ∙ w.if-is_err.false) (ap (λ v. v.items) w.needed-is)
    ]
