use Rattle.std.proofs.Common.{◌+◌, ◌∙◌, ap, arith, length, subst, sym}
use Rattle.std.proofs.lemmas.List.{length_push}
use Rattle.cluster_turns.proofs.Elsewhere.{AreElsewhere, itself, no_claim, one_claim}
use Rattle.cluster_turns.specs.Here.{here_in}
use Rattle.cluster_turns.proofs.chosen.open_elsewhere.Goals as goal
use Rattle.cluster_turns.proofs.chosen.open_elsewhere.Goals.{then-other-at+in-Some, then-other-at+in_default, else-other-at}

pub loop-other-preserved : goal.loop-other-preserved
loop-other-preserved g c =
    let here = here_in c.args.nodes.now in
    let at = c.args.at in
    let units = c.loop-other.units.items in
    let other = c.loop-other.other in
    let are = c.loop-other.invariant.0 in
    elim c.if-other-at.branch [
      | then-other-at+in-Some w ↦
          let items = ap (λ v. v.items) w.units-is ∙ w.push.ensures.items in (
            subst (λ us. AreElsewhere here at us (other + 1)) (sym items)
                (one_claim here at units other are w.if-other-at.true w.in-Some.unit
                (sym w.open_unit.ensures ∙ w.in-Some.is)),
            omega (arith, c.loop-other.invariant.1, ap length items, length_push units w.in-Some.unit),
          )
      | then-other-at+in_default w ↦
          let items = ap (λ v. v.items) w.units-is in (
            subst (λ us. AreElsewhere here at us (other + 1)) (sym items)
                (no_claim here at units other are (sym w.open_unit.ensures ∙ w.in_default.is)),
            omega (arith, c.loop-other.invariant.1, ap length items),
          )
      | else-other-at w ↦
          let items = ap (λ v. v.items) w.units-is in (
            subst (λ us. AreElsewhere here at us (other + 1)) (sym items)
                (itself here at units other are w.if-other-at.false),
            omega (arith, c.loop-other.invariant.1, ap length items),
          )
    ]
