-- How a hasher is fed.
use Rattle.std.specs.Prelude.{◌++◌}
use Rattle.faults.specs.Bytes.{Text}
use Rattle.sha2.specs.Hashers.{Holds256}
use Rattle.sha2.specs.declared.Sha256.{Sha256}

-- The text was appended to the hasher's message.
pub record Takes (old new : Sha256) (text : Text) : Type 0 where
  pub more : (message : Text) → Holds256 old message → Holds256 new (message ++ text)
