use Rattle.std.proofs.Common.{◌≤◌, List, sym, subst, arith}
use Rattle.protocol.specs.Events.{Event}
use Rattle.protocol.specs.Given.{Given}
use Rattle.ways_on.specs.Asked.{IsGranted}
use Rattle.ways_on.specs.Laws.{HasWay}
use Rattle.ways_on.specs.inside.Planned.{IsPlan}
use Rattle.ways_on.proofs.HasOne.{way_told}
use Rattle.ways_on.proofs.ways.way_on.Goals as goal

pub returns-clause-way : goal.returns-clause-way
returns-clause-way c =
    let w = c.args.world.now.world in
    let k = c.args.node in
    let path = c.args.path.now in
    let host = c.args.host in
    let given = c.args.packages in
    let same = c.in_ok-copy.ensures in
    let p = subst (λ (g : Given). IsPlan w k path host g c.in_ok-plan.plan) same
    c.in_ok-plan.ensures.plan in
    let g = subst (λ (g : Given). IsGranted w k path host g) same c.in_ok-plan.ensures.granted in
    subst (λ (es : List Event). HasWay w k path host given es)
    (sym (c.in_ok-events_of.ensures p))
    (way_told c.args.world.now c.events-events.ensures.history k path host given
    (let few : host ≤ 65535 = omega arith in few) g p.shown)
