use Rattle.std.proofs.Common.{◌+◌, ap, arith}
use Rattle.graph.specs.Lists.{times}
use Rattle.engine.proofs.Told.{told-more, told-take-le}
use Rattle.engine.proofs.search.lower_all.Goals as goal

pub lower-requires-clause-some : goal.lower-requires-clause-some
lower-requires-clause-some c =
    let runs = c.args.runs.now in
    let found = c.args.found.now in
    let i = c.loop-position.position-index in
    λ p inside. omega (
      arith,
      ap (times p) c.at.ensures,
      c.requires.some p (omega (arith, inside, c.loop-position.auto.lacks)),
      c.loop-position.invariant p (omega (arith, inside, c.loop-position.auto.lacks)),
      told-more runs p found i c.loop-position-test.true,
      told-take-le runs p found (i + 1),
    )
