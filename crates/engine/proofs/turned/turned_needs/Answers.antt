use Rattle.std.proofs.Common.{◌≡◌, ◌+◌, ℕ, List, cond, length, nat_eq, subst}
use Rattle.graph.specs.Lists.{list_at, times}
use Rattle.engine.specs.inside.Queueing.{needs_of}
use Rattle.graph.proofs.Turned.{AreReversed-more}
use Rattle.engine.proofs.turned.turned_needs.Goals as goal

pub loop-unit-preserved : goal.loop-unit-preserved
loop-unit-preserved c =
    let before = c.loop-unit.needs in
    let now = c.add.new.self in
    let unit = c.loop-unit.unit in
    AreReversed-more (length c.args.tree.now) unit (needs_of c.args.units.now) before now c.loop-unit.invariant c.add.ensures.each
    (subst (λ (ps : List ℕ). (d x : ℕ) → times x (list_at now d) ≡ times x (list_at before d) + cond (nat_eq unit x) (times d ps) 0) c.build_deps.ensures.value c.in_ok-add.ensures.named)
