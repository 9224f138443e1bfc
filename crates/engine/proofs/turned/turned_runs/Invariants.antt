use Rattle.std.proofs.Common.{length}
use Rattle.listing.specs.Tree.{run_at}
use Rattle.graph.specs.Lists.{AreReversed}
use Rattle.engine.proofs.turned.turned_runs.Given as goal

abbrev pub invariant-loop-position : goal.invariant-loop-position
invariant-loop-position l = AreReversed (length l.tree) l.position (run_at l.tree) l.runs
