use Rattle.engine.specs.declared.Letter.TheVariants.{Ignored}
use Rattle.graph.proofs.Lists.{get_or-same}
use Rattle.status_letters.proofs.Tallied.{counts-more}
use Rattle.status_letters.proofs.counting.counts_of.Goals as goal

pub loop-letter-preserved : goal.loop-letter-preserved
loop-letter-preserved c =
    counts-more c.args.letters.now c.loop-letter.letter-index c.loop-letter-test.true _ c.loop-letter.counts c.add.new.self
    (get_or-same c.args.letters.now c.loop-letter.letter-index _ Ignored c.loop-letter-test.true) c.loop-letter.invariant c.add.ensures
