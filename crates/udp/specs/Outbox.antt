-- Texts to send, sealed under a run's key or not.
use Rattle.std.specs.Prelude.{Option}
use Rattle.faults.specs.Bytes.{Text}

-- The key that texts are sealed with, and the last bytes that were made.
pub record OutboxState : Type 0 where
  -- the run's key, if datagrams are sealed
  pub key : Option Text
  -- the last bytes that were made
  pub made : Option Text
