use Rattle.std.proofs.Common.{rules, subst}
use Rattle.simulator.specs.History.{IsHistory}
use Rattle.simulator.proofs.StepHistory.{allowed_there, fits_there, listed_there, one_there, records_there}
use Rattle.simulator.proofs.running_world.World.agreed.Goals as goal

pub returns-clause-one_a_path : goal.returns-clause-one_a_path
returns-clause-one_a_path c =
    one_there c.args.self.now (subst IsHistory c.self.view_is c.self.invariant.history)

pub returns-clause-records : goal.returns-clause-records
returns-clause-records c =
    records_there c.args.self.now (subst IsHistory c.self.view_is c.self.invariant.history)

pub returns-clause-fits : goal.returns-clause-fits
returns-clause-fits c =
    fits_there c.args.self.now (subst IsHistory c.self.view_is c.self.invariant.history)

pub returns-clause-allowed : goal.returns-clause-allowed
returns-clause-allowed c =
    allowed_there c.args.self.now (subst IsHistory c.self.view_is c.self.invariant.history)

pub returns-clause-held : goal.returns-clause-held
returns-clause-held c =
    listed_there c.args.self.now (subst IsHistory c.self.view_is c.self.invariant.history)

pub returns-clause-list : goal.returns-clause-list
returns-clause-list c = search rules
