use Rattle.std.proofs.Common.{length}
use Rattle.graph.specs.Lists.{AreReversed}
use Rattle.engine.specs.inside.Queueing.{needs_of}
use Rattle.engine.proofs.turned.turned_needs.Given as goal

abbrev pub invariant-loop-unit : goal.invariant-loop-unit
invariant-loop-unit l = AreReversed (length l.tree) l.unit (needs_of l.units) l.needs
