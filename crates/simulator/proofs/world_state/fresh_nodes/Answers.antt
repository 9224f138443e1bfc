use Rattle.std.proofs.Common.{ap, arith, length}
use Rattle.std.proofs.lemmas.List.{length_push}
use Rattle.simulator.specs.declared.slot.Slot.TheVariants.{Up}
use Rattle.simulator.proofs.AtStart.{fresh_more}
use Rattle.simulator.proofs.world_state.fresh_nodes.Goals as goal

pub loop-me-preserved : goal.loop-me-preserved
loop-me-preserved c =
    let nodes = c.loop-me.nodes.items in
    let n = c.in_ok-fresh.field-0 in
    let more = c.in_ok-push.ensures.items in
    record {
      count = omega (arith, c.loop-me.invariant.count, ap length more, length_push nodes (Up n));
      each = fresh_more c.args.tree.now c.args.weights.now nodes c.push.new.self.items n
          c.loop-me.me c.loop-me.invariant.each c.loop-me.invariant.count
          c.in_ok-fresh.ensures more;
    }
