use Rattle.std.proofs.Common.{◌∙◌, arith, inr, refl, subst, sym}
use Rattle.std.proofs.lemmas.Result.{err_from_is_err_and}
use Rattle.cluster_turns.proofs.Owns.{nothing_more, own_chosen, own_refused}
use Rattle.cluster_turns.specs.Unfailed.{EachFailedBelow}
use Rattle.cluster_turns.specs.inside.Cases.{IsOwnFault, IsOwnPart}
use Rattle.cluster_turns.proofs.chosen.own_among.Goals as goal

pub returns-in_err-readied-clause-refused : goal.returns-in_err-readied-clause-refused
returns-in_err-readied-clause-refused g c =
    let pending = c.args.pending.now in
    let node = c.loop-node.node in
    let fault = c.in_err-readied.field-0.0 in
    let p = err_from_is_err_and c.from_residual.result c.from_residual.ensures.1 in
    rw (p.1, p.2) (own_refused c.args.nodes.now.items pending c.args.from node
    c.loop-node.invariant.1 c.loop-node.invariant.3 c.args.below c.loop-node-test.true fault
    (subst (λ xs. IsOwnFault xs pending node fault) c.loop-node.invariant.0
    c.in_err-readied.ensures.refused))

pub returns-in-Some-clause-chosen : goal.returns-in-Some-clause-chosen
returns-in-Some-clause-chosen g c =
    let pending = c.args.pending.now in
    let node = c.loop-node.node in
    own_chosen c.args.nodes.now.items pending c.args.from node c.loop-node.invariant.1
    c.loop-node.invariant.3 c.args.below c.loop-node-test.true c.in_ok-readied.field-0
    (record { node = node; readied = c.in-Some.readied }) c.in-Some.is refl
    (subst (λ xs. IsOwnPart xs pending node c.in_ok-readied.field-0) c.loop-node.invariant.0
    c.in_ok-readied.ensures.part)

pub loop-node-preserved : goal.loop-node-preserved
loop-node-preserved g c = (
  c.own_at.ensures.same ∙ c.loop-node.invariant.0,
  omega (arith, c.loop-node.invariant.1),
  inr (omega (arith, c.loop-node-test.true)),
  nothing_more c.args.nodes.now.items c.args.pending.now c.args.from c.loop-node.node
      c.loop-node.invariant.1 c.loop-node.invariant.3 c.in_ok-readied.field-0 c.in_default.is
      (subst (λ xs. IsOwnPart xs c.args.pending.now c.loop-node.node c.in_ok-readied.field-0)
      c.loop-node.invariant.0 c.in_ok-readied.ensures.part),
  subst (λ xs. EachFailedBelow xs c.args.pending.now c.own_at.new.unfailed)
      c.loop-node.invariant.0 c.own_at.ensures.below,
)

pub own_at-requires-clause-below : goal.own_at-requires-clause-below
own_at-requires-clause-below g c =
    subst (λ xs. EachFailedBelow xs c.args.pending.now c.loop-node.unfailed)
    (sym c.loop-node.invariant.0) c.loop-node.invariant.4

pub returns-in-Some-clause-below : goal.returns-in-Some-clause-below
returns-in-Some-clause-below g c =
    subst (λ xs. EachFailedBelow xs c.args.pending.now c.own_at.new.unfailed)
    c.loop-node.invariant.0 c.own_at.ensures.below

pub returns-clause-below : goal.returns-clause-below
returns-clause-below g c = c.loop-node.invariant.4
