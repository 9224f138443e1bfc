use Rattle.std.proofs.Common.{set}
use Rattle.engine.specs.declared.Letter.TheVariants.{I}
use Rattle.engine.proofs.Waiting.{IsInstalling}
use Rattle.engine.proofs.queueing.install.Given as goal

abbrev pub invariant-loop-unit : goal.invariant-loop-unit
invariant-loop-unit l = IsInstalling l.units (set l.fn.letters l.position I) l.letters l.waits l.needing l.unit-index
