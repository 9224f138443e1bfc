use Rattle.std.proofs.Common.{subst}
use Rattle.cluster_turns.proofs.AnyCase.{listed_in_any}
use Rattle.cluster_turns.proofs.Led.{one_list, safe}
use Rattle.cluster_turns.specs.AnyCase.{IsListedInAnyCase}
use Rattle.cluster_turns.specs.State.{AreOnLogs}
use Rattle.cluster_turns.specs.inside.Standing.{cluster_of}
use Rattle.cluster_turns.proofs.cluster.Cluster.events.Goals as goal

pub returns-clause-on_logs : goal.returns-clause-on_logs
returns-clause-on_logs g c =
    subst (λ s. AreOnLogs g.D.Disk s) c.self.view_is c.self.invariant.1

pub returns-clause-one_list : goal.returns-clause-one_list
returns-clause-one_list g c = one_list c.args.self.now

pub returns-clause-safe : goal.returns-clause-safe
returns-clause-safe g c = safe c.args.self.now

pub returns-clause-any_case : goal.returns-clause-any_case
returns-clause-any_case g c =
    subst (λ s. IsListedInAnyCase s) c.self.view_is
    (listed_in_any (cluster_of c.self.inside) c.self.invariant.0.is_world.made
    c.self.invariant.0.any_case)
