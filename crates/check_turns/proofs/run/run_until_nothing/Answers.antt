use Rattle.check_turns.proofs.Listed.{one_list}
use Rattle.check_turns.proofs.run.run_until_nothing.Goals as goal

pub returns-clause-led : goal.returns-clause-led
returns-clause-led g c =
    let first = c.in_ok-cluster.cluster in
    let now = c.take_turns-ended.new.cluster in
    let made = c.in_ok-cluster.ensures in
    one_list c.args.tree.now c.args.weights.now first now made.tree made.weights made.events
    made.world c.take_turns-ended.ensures.goes_on c.events-events.ensures.one_list
    c.into_events.result.items c.into_events.ensures
