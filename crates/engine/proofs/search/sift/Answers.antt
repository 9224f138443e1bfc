use Rattle.std.proofs.Common.{length}
use Rattle.graph.proofs.Turned.{named_within}
use Rattle.engine.proofs.Sifting.{IsSifted-all, found_within, sums_fit}
use Rattle.engine.proofs.search.sift.Goals as goal

pub lower_all-requires-clause-within : goal.lower_all-requires-clause-within
lower_all-requires-clause-within c = found_within c.args.runs.now c.args.found.now c.args.marks.now c.requires.found c.requires.each

pub lower_all-requires-clause-listed : goal.lower_all-requires-clause-listed
lower_all-requires-clause-listed c = λ p. named_within (length c.args.runs.now) (length c.args.runs.now) c.requires.turned.0 c.args.runs.now p c.requires.turned.1

pub drop_needing-requires-clause-listed : goal.drop_needing-requires-clause-listed
drop_needing-requires-clause-listed c = λ p. named_within (length c.args.runs.now) (length c.args.runs.now) c.requires.turned.0 c.args.runs.now p c.requires.turned.1

pub drop_needing-requires-clause-fits : goal.drop_needing-requires-clause-fits
drop_needing-requires-clause-fits c =
    sums_fit c.args.runs.now c.args.found.now c.args.marks.now c.drop_lacking.new.marks c.drop_lacking.new.dropped.items c.args.lacks.now c.lower_all.new.lacks
    c.requires.found c.requires.each c.requires.lacks c.lower_all.auto.lacks c.lower_all.ensures c.drop_lacking.ensures.parted
    c.requires.turned.0 c.requires.turned.1 c.requires.few

pub returns-clause-sifted : goal.returns-clause-sifted
returns-clause-sifted c =
    IsSifted-all c.args.runs.now c.args.found.now c.args.marks.now c.drop_lacking.new.marks c.drop_lacking.new.dropped.items c.args.lacks.now c.lower_all.new.lacks
    c.requires.found c.requires.each c.requires.lacks c.lower_all.auto.lacks c.lower_all.ensures c.drop_lacking.ensures.parted
    c.drop_needing.new.marks c.drop_needing.new.dropped.items c.drop_needing.new.lacks c.drop_needing.ensures.parted c.drop_needing.ensures.raised
    c.drop_needing.ensures.rest c.drop_needing.ensures.some c.drop_lacking.ensures.some c.drop_needing.ensures.caused
