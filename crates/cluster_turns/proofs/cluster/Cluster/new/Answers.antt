use Rattle.std.proofs.Common.{◌∙◌, refl, replicate}
use Rattle.cluster_turns.proofs.Disks.{all_stand}
use Rattle.cluster_turns.proofs.Openings.{fresh_on_logs, is_cluster, starts}
use Rattle.cluster_turns.specs.State.{ClusterState}
use Rattle.cluster_turns.specs.declared.cluster.Cluster.TheInside.{Inside}
use Rattle.cluster_turns.specs.inside.Standing.{cluster_of}
use Rattle.world.specs.World.{IsMade}
use Rattle.cluster_turns.proofs.cluster.Cluster.new.Goals as goal

pub invariant_of-result : goal.invariant_of-result
invariant_of-result g c =
    let i : Inside g.row.D.Denot g.row.P.Denot = record {
      alloc = c.args.alloc;
      tree = c.args.tree;
      units = c.in_ok-units.units;
      weights = c.copy.result;
      nodes = c.in_ok-nodes.nodes;
      sent = c.new-2.result;
      events = c.new-3.result;
      pending = c.new-4.result;
      unfailed = replicate 9 0;
      port = c.args.port;
    } in
    let made : IsMade c.in_ok-units.units c.args.weights.now = record {
      divided = c.len-count.ensures.division;
      weigh = c.as_slice-weights.ensures.are_weights;
    } in (
      is_cluster g.D.Disk c.args.tree.now c.args.weights.now
          c.args.disks.items i c.in_ok-units.ensures refl made c.copy.ensures
          (c.in_ok-nodes.ensures.count ∙ c.requires) c.in_ok-nodes.ensures.fresh c.new-2.ensures
          c.new-3.ensures.items c.new-4.ensures refl,
      fresh_on_logs g.D.Disk c.args.tree.now c.args.weights.now
          c.args.disks.items (cluster_of i) c.in_ok-nodes.ensures.fresh,
    )

pub returns-clause-world : goal.returns-clause-world
returns-clause-world g c =
    let s : ClusterState g.row.D.Denot g.row.P.Denot = record {
      division = c.in_ok-units.units;
      weights = c.copy.result;
      nodes = c.in_ok-nodes.nodes.items;
      sent = c.new-2.result;
      events = c.new-3.result.items;
      pending = c.new-4.result;
      port = c.args.port;
    } in
    let made : IsMade c.in_ok-units.units c.args.weights.now = record {
      divided = c.len-count.ensures.division;
      weigh = c.as_slice-weights.ensures.are_weights;
    } in
    starts g.D.Disk c.args.tree.now c.args.weights.now
    c.args.disks.items s c.in_ok-units.ensures made c.copy.ensures
    (c.in_ok-nodes.ensures.count ∙ c.requires) c.in_ok-nodes.ensures.fresh c.new-2.ensures
    c.new-3.ensures.items

pub returns-clause-on_logs : goal.returns-clause-on_logs
returns-clause-on_logs g c k n at up kept =
    ((c.in_ok-nodes.ensures.fresh.each k n at).2).on_log kept

pub returns-clause-disks : goal.returns-clause-disks
returns-clause-disks g c =
    all_stand g.D.Disk c.args.tree.now
    c.args.weights.now c.args.disks.items c.in_ok-nodes.nodes.items c.in_ok-nodes.ensures.fresh
    c.in_ok-nodes.ensures.count
