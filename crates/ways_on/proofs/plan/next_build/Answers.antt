use Rattle.std.proofs.Common.{◌≡◌, ◌<◌, ◌≤◌, suc, Err, length, sym, ap, ◌∙◌, arith, inl, inr, ⊎_elim}
use Rattle.std.proofs.lemmas.Bool.{cases_lt}
use Rattle.one_list.proofs.nodes.NodesAsMembers.{get_within}
use Rattle.simulator.proofs.Shown.{few_nodes}
use Rattle.ways_on.proofs.Planning.{next_left}
use Rattle.ways_on.specs.inside.Planned.{as_way, fault_of}
use Rattle.world.specs.World.{member_at}
use Rattle.ways_on.proofs.plan.next_build.Goals as goal

pub build_of-requires-clause-claim : goal.build_of-requires-clause-claim
build_of-requires-clause-claim c =
    let w = c.args.world.now.world in
    let s = c.requires.shown in
    let few : length w.nodes ≤ 9 = few_nodes c.args.world.now c.requires.history in
    let lt = get_within w.nodes c.args.node s.node s.stands in
    let left : c.args.last < 9223372036854775807 = ⊎_elim (λ l. l)
    (λ ge. absurd (let no = c.in-Ok.ensures.spent.1 ge in cc))
    (cases_lt c.args.last 9223372036854775807) in
    record {
      round = (omega (arith, c.in-Ok.ensures.above), omega (arith, c.in-Ok.ensures.above, left));
      member = omega (arith, few, lt);
    }

pub returns-in-Ok-build_of : goal.returns-in-Ok-build_of
returns-in-Ok-build_of c = λ s.
    let m = member_at c.args.world.now.world c.args.node s.node in
    let left : c.args.last < 9223372036854775807 = ⊎_elim (λ l. l)
    (λ ge. absurd (let no = c.in-Ok.ensures.spent.1 ge in cc))
    (cases_lt c.args.last 9223372036854775807) in
    let above : c.in-Ok.round ≡ suc c.args.last = omega (arith, c.in-Ok.ensures.above) in
    next_left m s.unit c.args.host c.args.last c.args.packages left c.in-Ok.round above
    ∙ ap as_way (c.in-Ok-build_of.ensures s.node s.unit s.stands s.named)

pub returns-in-Err : goal.returns-in-Err
returns-in-Err c = λ s.
    let m = member_at c.args.world.now.world c.args.node s.node in
    let left : c.args.last < 9223372036854775807 = ⊎_elim (λ l. l)
    (λ ge. absurd (let no = c.in-Ok.ensures.spent.1 ge in cc))
    (cases_lt c.args.last 9223372036854775807) in
    let above : c.in-Ok.round ≡ suc c.args.last = omega (arith, c.in-Ok.ensures.above) in
    ⊎_elim (λ memory. inl (c.fault_of.ensures ∙ ap fault_of memory))
    (λ refused. inr (next_left m s.unit c.args.host c.args.last c.args.packages left c.in-Ok.round
    above ∙ ap as_way refused ∙ ap (λ f. Err f) (sym c.fault_of.ensures)))
    (c.in-Err.ensures s.node s.unit s.stands s.named)
