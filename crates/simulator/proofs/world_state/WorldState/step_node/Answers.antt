use Rattle.std.proofs.Common.{ap, refl, slice_set}
use Rattle.std.specs.Vec.{with_item}
use Rattle.protocol.specs.Events.{event_view}
use Rattle.simulator.specs.declared.slot.Slot.TheVariants.{Down, Up}
use Rattle.simulator.specs.declared.world_state.WorldState.{WorldState}
use Rattle.simulator.specs.inside.Standing.{world_of}
use Rattle.simulator.proofs.StepHappens.{IsLeft, at_place, can, is_left, never_down, no_restart, ok_steps_do, on_log}
use Rattle.simulator.proofs.world_state.WorldState.step_node.Goals as goal

pub step_node-requires-clause-asks : goal.step_node-requires-clause-asks
step_node-requires-clause-asks c =
    can c.args.self.now (event_view c.args.event.now) c.requires.standing c.requires.reached
    c.requires.may c.requires.step

pub step_node-requires-clause-on_log : goal.step_node-requires-clause-on_log
step_node-requires-clause-on_log c =
    (on_log c.args.self.now (event_view c.args.event.now) c.requires.standing c.requires.reached
    c.requires.may c.requires.step c.in-Up.node
    (at_place c.args.self.now (event_view c.args.event.now) c.requires.may
    (no_restart (event_view c.args.event.now) c.requires.step) c.node_of.result c.node_of.ensures
    c.index_mut.result.now
    (Up c.in-Up.node) c.index_mut.ensures.value c.in-Up.is)).1

-- the state that the call leaves
abbrev state_then : goal.After-self-1 → WorldState
state_then c = record {
  tree = c.args.self.now.tree;
  units = c.args.self.now.units;
  weights = c.args.self.now.weights;
  nodes = with_item c.args.self.now.nodes c.node_of.result (Up c.step_node.new.node);
  tables = c.step_node.new.tables;
}

left : (c : goal.After-self-1)
    → IsLeft c.args.self.now (event_view c.args.event.now) (state_then c) c.step_node.result
left c =
    is_left c.args.self.now (event_view c.args.event.now) c.requires.standing c.requires.reached
    c.requires.may c.requires.step c.in-Up.node
    (at_place c.args.self.now (event_view c.args.event.now) c.requires.may
    (no_restart (event_view c.args.event.now) c.requires.step) c.node_of.result c.node_of.ensures
    c.index_mut.result.now
    (Up c.in-Up.node) c.index_mut.ensures.value c.in-Up.is)
    (c.host_fits.ensures c.args.self.now.tables.sent) c.step_node.new.node (state_then c)
    (record {
      tree = refl;
      units = refl;
      weights = refl;
      nodes = ap (λ p. slice_set c.args.self.now.nodes.items p (Up c.step_node.new.node))
          c.node_of.ensures;
    }) c.step_node.result c.step_node.ensures.taken c.step_node.ensures.same
    c.step_node.ensures.refused c.step_node.ensures.on_log c.step_node.ensures.listed

pub returns-clause-does : goal.returns-clause-does
returns-clause-does c =
    ok_steps_do (world_of c.args.self.now) (world_of (state_then c))
    (event_view c.args.event.now) c.requires.step c.step_node.result (left c).does

pub returns-clause-same : goal.returns-clause-same
returns-clause-same c = (left c).same

pub returns-clause-refused : goal.returns-clause-refused
returns-clause-refused c = (left c).refused

pub returns-clause-standing : goal.returns-clause-standing
returns-clause-standing c = (left c).standing

pub unreachable-requires : goal.unreachable-requires
unreachable-requires c =
    never_down c.args.self.now (event_view c.args.event.now) c.requires.may
    (no_restart (event_view c.args.event.now) c.requires.step) (Down c.in-Down.field-0)
    (at_place c.args.self.now (event_view c.args.event.now) c.requires.may
    (no_restart (event_view c.args.event.now) c.requires.step) c.node_of.result c.node_of.ensures
    c.index_mut.result.now (Down c.in-Down.field-0) c.index_mut.ensures.value c.in-Down.is) refl
