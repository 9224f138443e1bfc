use Rattle.std.proofs.Math.Facts.{Fits-lt-pow}
use Rattle.dpbr_wayon.proofs.writable.are_bytes.Goals as goal

pub returns : goal.returns
returns c = λ i. Fits-lt-pow (c.type_inv.bytes i)
