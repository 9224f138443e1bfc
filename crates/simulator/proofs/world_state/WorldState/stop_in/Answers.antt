use Rattle.std.proofs.Common.{refl}
use Rattle.std.specs.Vec.{with_item}
use Rattle.protocol.specs.Events.{event_view}
use Rattle.simulator.proofs.StepHappens.{with_nodes}
use Rattle.simulator.proofs.StopCalls.{IsLeftIn, is_on, left_there, ready_there, refused_there}
use Rattle.simulator.proofs.StopsInside.{can}
use Rattle.simulator.proofs.world_state.WorldState.stop_in.Goals as goal
use Rattle.simulator.specs.declared.world_state.WorldState.{WorldState}
use Rattle.simulator.specs.inside.Standing.{world_of}

pub prepare_in_slot-requires-clause-asks : goal.prepare_in_slot-requires-clause-asks
prepare_in_slot-requires-clause-asks c =
    can c.args.self.now (event_view c.args.step.now) c.args.left.now c.requires.standing
    c.requires.reached c.requires.may

pub prepare_in_slot-requires-clause-up : goal.prepare_in_slot-requires-clause-up
prepare_in_slot-requires-clause-up c =
    let s = c.args.self.now in
    let e = event_view c.args.step.now in
    let l = c.args.left.now in
    let place = c.node_of-place.result in
    let old = c.index_mut.result.now in
    is_on s e l c.requires.standing c.requires.reached c.requires.may place c.node_of-place.ensures
    old c.index_mut.ensures.value

pub stop_doing-requires : goal.stop_doing-requires
stop_doing-requires c =
    let s = c.args.self.now in
    let e = event_view c.args.step.now in
    let l = c.args.left.now in
    let place = c.node_of-place.result in
    let old = c.index_mut.result.now in
    ready_there s e l c.requires.standing c.requires.reached c.requires.may place
    c.node_of-place.ensures old c.index_mut.ensures.value c.prepare_in_slot.new.slot c.in-Ok.ready
    c.in-Ok.ensures

-- ---- the step was made ready

-- the state that the call leaves
abbrev state_then : goal.After-stop_doing → WorldState
state_then c = with_nodes c.args.self.now c.stop_doing.new.nodes

left : (c : goal.After-stop_doing)
    → IsLeftIn c.args.self.now (event_view c.args.step.now) c.args.left.now (state_then c)
    c.stop_doing.result
left c =
    left_there c.args.self.now (event_view c.args.step.now) c.args.left.now c.requires.standing
    c.requires.reached c.requires.may c.node_of-place.result c.node_of-place.ensures
    c.index_mut.result.now c.index_mut.ensures.value c.prepare_in_slot.new.slot c.in-Ok.ready
    c.in-Ok.ensures (c.host_fits.ensures (world_of c.args.self.now).sent) (state_then c)
    (record { tree = refl; units = refl; weights = refl; tables = refl })
    c.stop_doing.result c.stop_doing.ensures.done c.stop_doing.ensures.stopped
    c.stop_doing.ensures.none

pub returns-in-Ok-clause-does : goal.returns-in-Ok-clause-does
returns-in-Ok-clause-does c = (left c).does

pub returns-in-Ok-clause-same : goal.returns-in-Ok-clause-same
returns-in-Ok-clause-same c = (left c).same

pub returns-in-Ok-clause-refused : goal.returns-in-Ok-clause-refused
returns-in-Ok-clause-refused c = (left c).refused

pub returns-in-Ok-clause-standing : goal.returns-in-Ok-clause-standing
returns-in-Ok-clause-standing c = (left c).standing

-- ---- it was not

pub returns-in-Err-clause-same : goal.returns-in-Err-clause-same
returns-in-Err-clause-same c =
    (refused_there c.args.self.now (event_view c.args.step.now) c.args.left.now c.requires.standing
    c.requires.reached c.requires.may c.node_of-place.result c.node_of-place.ensures
    c.index_mut.result.now c.index_mut.ensures.value c.prepare_in_slot.new.slot c.in-Err.fault
    c.in-Err.ensures (with_nodes c.args.self.now
    (with_item c.args.self.now.nodes c.node_of-place.result c.prepare_in_slot.new.slot))
    (record { tree = refl; units = refl; weights = refl; tables = refl }) refl).0

pub returns-in-Err-clause-refused : goal.returns-in-Err-clause-refused
returns-in-Err-clause-refused c =
    (refused_there c.args.self.now (event_view c.args.step.now) c.args.left.now c.requires.standing
    c.requires.reached c.requires.may c.node_of-place.result c.node_of-place.ensures
    c.index_mut.result.now c.index_mut.ensures.value c.prepare_in_slot.new.slot c.in-Err.fault
    c.in-Err.ensures (with_nodes c.args.self.now
    (with_item c.args.self.now.nodes c.node_of-place.result c.prepare_in_slot.new.slot))
    (record { tree = refl; units = refl; weights = refl; tables = refl }) refl).2

pub returns-in-Err-clause-standing : goal.returns-in-Err-clause-standing
returns-in-Err-clause-standing c =
    (refused_there c.args.self.now (event_view c.args.step.now) c.args.left.now c.requires.standing
    c.requires.reached c.requires.may c.node_of-place.result c.node_of-place.ensures
    c.index_mut.result.now c.index_mut.ensures.value c.prepare_in_slot.new.slot c.in-Err.fault
    c.in-Err.ensures (with_nodes c.args.self.now
    (with_item c.args.self.now.nodes c.node_of-place.result c.prepare_in_slot.new.slot))
    (record { tree = refl; units = refl; weights = refl; tables = refl }) refl).1
