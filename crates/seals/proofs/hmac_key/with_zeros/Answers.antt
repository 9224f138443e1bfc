use Rattle.std.proofs.lemmas.List.{drop-replicate}
use Rattle.seals.proofs.hmac_key.with_zeros.Goals as goal

pub returns : goal.returns
returns c = rw (c.copy_from_slice.ensures.after, drop-replicate)
