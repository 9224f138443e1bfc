use Rattle.std.proofs.Common.{refl}
use Rattle.traces.proofs.Ones.{no_ones, some_ones}
use Rattle.traces.proofs.reading.ones.Goals as goal

pub returns-in-Ok : goal.returns-in-Ok
returns-in-Ok c = rw c.in-Ok.ensures.weights (some_ones c.args.members c.requires c.in-Ok.ensures.bad.1)

pub returns-in-Err : goal.returns-in-Err
returns-in-Err c = no_ones c.args.members c.requires (c.in-Err.ensures.bad.0 refl)
