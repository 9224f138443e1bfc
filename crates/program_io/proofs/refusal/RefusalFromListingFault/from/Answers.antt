use Rattle.std.proofs.Common.{rules}
use Rattle.program_io.proofs.refusal.RefusalFromListingFault.from.Goals as goal

pub returns : goal.returns
returns c = search rules
