use Rattle.std.proofs.Common.{rules}
use Rattle.std.proofs.lemmas.Option.{slice_get_within}
use Rattle.simulator.proofs.stops.stop_with.Goals as goal

pub returns-in-Torn-clause-stopped : goal.returns-in-Torn-clause-stopped
returns-in-Torn-clause-stopped c = search rules

pub returns-in-Torn-clause-none : goal.returns-in-Torn-clause-none
returns-in-Torn-clause-none c = search rules

pub returns-in-Whole-clause-stopped : goal.returns-in-Whole-clause-stopped
returns-in-Whole-clause-stopped c = search rules

pub returns-in-Whole-clause-none : goal.returns-in-Whole-clause-none
returns-in-Whole-clause-none c = search rules

pub stop_torn-requires : goal.stop_torn-requires
stop_torn-requires c =
    slice_get_within c.args.nodes.now.items c.args.place c.requires.node c.requires.stands

pub stop-requires : goal.stop-requires
stop-requires c =
    slice_get_within c.args.nodes.now.items c.args.place c.requires.node c.requires.stands
