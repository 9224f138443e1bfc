use Rattle.engine.specs.inside.Gathering.{AreGathered}
use Rattle.graph.specs.Marks.{has_mark}
use Rattle.engine.proofs.gathering.gather.Given as goal

abbrev pub invariant-loop-position : goal.invariant-loop-position
invariant-loop-position l = AreGathered l.tree (has_mark l.ignored) l.position l.gathered
