use Rattle.std.proofs.Common.{length}
use Rattle.graph.specs.Lists.{AreReversed}
use Rattle.graph.specs.Marks.{has_mark}
use Rattle.status_letters.specs.inside.Lacking.{held_runs}
use Rattle.status_letters.proofs.lacking.runs_of_held.Given as goal

abbrev pub invariant-loop-position : goal.invariant-loop-position
invariant-loop-position l = AreReversed (length l.tree) l.position (held_runs l.tree (has_mark l.held)) l.runs
