use Rattle.std.proofs.Common.{refl, subst, ◌∙◌}
use Rattle.cluster_turns.proofs.AfterTurn.{StandsThen, stands_then}
use Rattle.cluster_turns.proofs.AnyCase.{listed_in_any}
use Rattle.cluster_turns.proofs.ByCalls.{has_called}
use Rattle.cluster_turns.proofs.Led.{one_list, safe}
use Rattle.cluster_turns.proofs.Refusing.{none_foreign}
use Rattle.cluster_turns.proofs.Turns.{Promises, promises}
use Rattle.cluster_turns.specs.Calls.{HasCalled}
use Rattle.cluster_turns.specs.State.{ClusterState}
use Rattle.cluster_turns.specs.Turn.{WereKept}
use Rattle.cluster_turns.specs.inside.Standing.{cluster_of}
use Rattle.cluster_turns.proofs.cluster.Cluster.turn.Given.{Over}
use Rattle.cluster_turns.proofs.cluster.Cluster.turn.Goals as goal

pub take_turn-requires-clause-known : goal.take_turn-requires-clause-known
take_turn-requires-clause-known g c =
    none_foreign (cluster_of c.self.inside) c.self.invariant.0.world c.self.invariant.0.is_world

-- the cluster after the turn
abbrev cluster_then : (g : Over) → goal.After-take_turn g
    → ClusterState g.row.D.Denot g.row.P.Denot
cluster_then g c = record {
  division = c.self.inside.units;
  weights = c.self.inside.weights;
  nodes = c.take_turn.new.nodes.items;
  sent = c.take_turn.new.sent;
  events = c.take_turn.new.events.items;
  pending = c.take_turn.new.pending;
  port = c.take_turn.new.port;
}

-- what the turn promises
promised : (g : Over) (c : goal.After-take_turn g)
    → Promises g.D.Disk g.P.Port c.args.self.now (cluster_then g c) c.args.builds.now
    c.take_turn.result
promised g c =
    let i = c.self.invariant.0 in
    subst (λ old. Promises g.D.Disk g.P.Port old (cluster_then g c) c.args.builds.now
    c.take_turn.result) c.self.view_is
    (promises g.D.Disk g.P.Port (cluster_of c.self.inside) (cluster_then g c) c.args.builds.now
    refl refl i.count i.world i.is_world c.self.invariant.1 c.take_turn.result c.take_turn.ensures.turn)

-- and what holds after it
standing : (g : Over) (c : goal.After-take_turn g)
    → StandsThen g.D.Disk (cluster_of c.self.inside) (cluster_then g c)
standing g c =
    let i = c.self.invariant.0 in
    stands_then g.D.Disk g.P.Port (cluster_of c.self.inside) (cluster_then g c) c.args.builds.now
    refl refl i.count i.world i.is_world c.self.invariant.1 c.take_turn.result c.take_turn.ensures.turn

pub invariant_of-self : goal.invariant_of-self
invariant_of-self g c =
    let i = c.self.invariant.0 in
    let s = standing g c in (
      record {
        tree = i.tree;
        divided = i.divided;
        world = s.world;
        is_world = s.is_world;
        count = s.count ∙ i.count;
        placed = s.placed i.placed;
        any_case = s.any_case i.any_case;
        below = c.take_turn.ensures.below;
      },
      s.on_logs,
    )

pub returns-clause-chosen : goal.returns-clause-chosen
returns-clause-chosen g c = (promised g c).chosen

pub returns-clause-nothing : goal.returns-clause-nothing
returns-clause-nothing g c = (promised g c).nothing

pub returns-clause-happened : goal.returns-clause-happened
returns-clause-happened g c = (promised g c).happened

pub returns-clause-others : goal.returns-clause-others
returns-clause-others g c = (promised g c).others

pub returns-clause-offers : goal.returns-clause-offers
returns-clause-offers g c = (promised g c).offers

pub returns-clause-pending : goal.returns-clause-pending
returns-clause-pending g c = (promised g c).pending

pub returns-clause-same : goal.returns-clause-same
returns-clause-same g c = (promised g c).same

pub returns-clause-refused : goal.returns-clause-refused
returns-clause-refused g c = (promised g c).faults

pub returns-clause-left : goal.returns-clause-left
returns-clause-left g c = (promised g c).leaves

pub returns-clause-calls : goal.returns-clause-calls
returns-clause-calls g c =
    let i = c.self.invariant.0 in
    subst (λ old. HasCalled g.P.Port old (cluster_then g c) c.args.builds.now c.take_turn.result)
    c.self.view_is
    (has_called g.D.Disk g.P.Port (cluster_of c.self.inside) (cluster_then g c) c.args.builds.now
    refl refl i.count i.world i.is_world c.self.invariant.1 c.take_turn.result c.take_turn.ensures.calls)

pub returns-clause-disks : goal.returns-clause-disks
returns-clause-disks g c =
    let p = promised g c in
    record {
      any_moment_taken = p.any_moment_taken;
      any_moment = p.any_moment;
      device = p.device;
      untouched = p.untouched;
      nothing_touched = p.nothing_touched;
      kept_before = subst (λ old. WereKept g.D.Disk old (cluster_then g c)) c.self.view_is
          (standing g c).kept_before;
    }

pub returns-clause-on_logs : goal.returns-clause-on_logs
returns-clause-on_logs g c = (standing g c).on_logs

pub returns-clause-headline : goal.returns-clause-headline
returns-clause-headline g c =
    let s = standing g c in
    record {
      world = (s.world, s.is_world);
      one_list = one_list (cluster_then g c);
      safe = safe (cluster_then g c);
      any_case = listed_in_any (cluster_then g c) s.is_world.made
          (s.any_case c.self.invariant.0.any_case);
    }
