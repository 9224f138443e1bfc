use Rattle.wire.proofs.Builds.{fact_has_good_build}
use Rattle.wire.proofs.writing.note.Goals as goal

pub put_fact-requires : goal.put_fact-requires
put_fact-requires c = fact_has_good_build c.args.path.now c.args.fact.now c.requires
