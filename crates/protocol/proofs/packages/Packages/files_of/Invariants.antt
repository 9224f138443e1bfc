use Rattle.protocol.specs.inside.First.{NoneHas}
use Rattle.protocol.proofs.packages.Packages.files_of.Given as goal

abbrev pub invariant-loop-given : goal.invariant-loop-given
invariant-loop-given l = NoneHas l.self l.path l.given-index
