use Rattle.std.proofs.lemmas.Grind.{elements}
use Rattle.std.proofs.Common.{length, arith}
use Rattle.engine.specs.inside.Queueing.{needs_of}
use Rattle.graph.proofs.Turned.{named_within}
use Rattle.engine.proofs.queueing.install_all.Goals as goal

pub install-requires-clause-listed : goal.install-requires-clause-listed
install-requires-clause-listed c =
    rw c.at-in-B.ensures (named_within (length c.args.letters.now) (length c.args.units.now.units) (needs_of c.args.units.now) c.args.needs.now _ c.requires.needs)

pub returns-clause-all : goal.returns-clause-all
returns-clause-all c = grind (arith, elements)
