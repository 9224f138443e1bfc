-- The invariant of a key.
use Rattle.sha2.specs.Hashers.{Holds512}
use Rattle.seals.specs.Hmac.{xor_each}
use Rattle.seals.specs.declared.hmac_key.Key.TheInside.{Inside}

-- Each hash has taken the key's block XOR its pad.
pub record AreBegun (key : Inside) : Type 0 where
  pub inner : Holds512 key.inner (xor_each 0x36 key.block)
  pub outer : Holds512 key.outer (xor_each 0x5c key.block)
