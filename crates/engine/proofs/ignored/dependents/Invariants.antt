use Rattle.std.proofs.Common.{length}
use Rattle.graph.specs.Lists.{AreReversed}
use Rattle.engine.specs.shared.Marks.{deps_at}
use Rattle.engine.proofs.ignored.dependents.Given as goal

abbrev pub invariant-loop-position : goal.invariant-loop-position
invariant-loop-position l = AreReversed (length l.tree) l.position (deps_at l.tree) l.lists
