use Rattle.std.proofs.lemmas.Grind.{common_steps}
use Rattle.std.proofs.Common.{arith}
use Rattle.std.proofs.lemmas.List.{length-map}
use Rattle.simulator.proofs.Shown.{few_nodes}
use Rattle.simulator.specs.inside.Standing.{history_of, node_view}
use Rattle.simulator.proofs.running_world.World.len.Goals as goal

pub overflow_cast-result : goal.overflow_cast-result
overflow_cast-result c =
    let w = c.self.inside in
    omega (
      arith,
      c.len.ensures,
      few_nodes (history_of w) c.self.invariant.history,
      length-map
          w.state.nodes.items node_view,
    )

pub returns : goal.returns
returns c = grind (arith, common_steps)
