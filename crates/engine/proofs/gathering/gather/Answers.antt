use Rattle.std.proofs.lemmas.Grind.{common_steps}
use Rattle.std.proofs.Common.{◌∙◌, ap, subst, sym, arith}
use Rattle.listing.specs.Tree.{group_at}
use Rattle.engine.proofs.OneMore.{few_groups, gathered_ignored, gathered_more}
use Rattle.engine.specs.inside.Gathering.{Takes}
use Rattle.graph.specs.Marks.{has_mark}
use Rattle.engine.proofs.gathering.gather.Goals as goal
use Rattle.engine.proofs.gathering.gather.Goals.{then-ignored-position+in_ok-push, else-ignored-position+in_ok-take}

pub take-requires-clause-few : goal.take-requires-clause-few
take-requires-clause-few c = few_groups c.args.tree.now (has_mark c.args.ignored.now) c.loop-position.position c.loop-position.gathered c.loop-position.invariant

pub loop-position-preserved : goal.loop-position-preserved
loop-position-preserved c =
    let tree = c.args.tree.now in
    let n = c.loop-position.position in
    let before = c.loop-position.gathered in
    let after = c.if-ignored-position.gathered in
    elim c.if-ignored-position.branch [
      | then-ignored-position+in_ok-push w ↦
          gathered_ignored tree (has_mark c.args.ignored.now) n before after c.loop-position.invariant w.if-ignored-position.true
          (ap (λ g. g.groups.keys) w.gathered-is) (ap (λ g. g.packages.items) w.gathered-is) (ap (λ g. g.numbers.items) w.gathered-is ∙ w.in_ok-push.ensures.items)
      | else-ignored-position+in_ok-take w ↦
          gathered_more tree (has_mark c.args.ignored.now) n before after c.loop-position.invariant w.if-ignored-position.false
          (subst (λ g. Takes (group_at tree n) n before g) (sym w.gathered-is) w.in_ok-take.ensures)
    ]

pub take-requires-clause-each : goal.take-requires-clause-each
take-requires-clause-each c = grind (arith, common_steps)
