use Rattle.std.proofs.Common.{◌∙◌, refl, sym}
use Rattle.simulator.proofs.AtStart.{state_stands, world_starts}
use Rattle.simulator.specs.declared.world_state.WorldState.{WorldState}
use Rattle.simulator.proofs.world_state.WorldState.new.Goals as goal

pub fresh_nodes-requires : goal.fresh_nodes-requires
fresh_nodes-requires c = (
  c.in_ok-units.units,
  c.in_ok-units.ensures ∙ sym c.new-digested.ensures,
  c.len-count.ensures.division,
)

pub returns-clause-world : goal.returns-clause-world
returns-clause-world c =
    let s : WorldState = record {
      tree = c.new-digested.result;
      units = c.in_ok-units.units;
      weights =
          c.copy.result;
      nodes = c.in_ok-nodes.nodes;
      tables = c.new-2.result;
    } in
    world_starts s c.new-digested.result c.args.weights.now
    (c.in_ok-units.ensures ∙ sym c.new-digested.ensures)
    c.len-count.ensures.division c.copy.ensures c.in_ok-nodes.ensures
    c.new-2.ensures.sent c.new-2.ensures.list

pub returns-clause-standing : goal.returns-clause-standing
returns-clause-standing c =
    let s : WorldState = record {
      tree = c.new-digested.result;
      units = c.in_ok-units.units;
      weights =
          c.copy.result;
      nodes = c.in_ok-nodes.nodes;
      tables = c.new-2.result;
    } in
    state_stands s c.new-digested.result c.args.weights.now
    (c.in_ok-units.ensures ∙ sym c.new-digested.ensures)
    c.len-count.ensures.division c.copy.ensures c.in_ok-nodes.ensures
    refl c.new-2.ensures.listed
