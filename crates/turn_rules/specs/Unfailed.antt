-- The queued packages whose units haven't failed.
use Rattle.std.specs.Prelude.{◌<◌, ℕ, Bool, true, false, Option, None, Some}
use Rattle.ballots.specs.declared.message.Fact.{Fact}
use Rattle.ballots.specs.declared.message.Fact.TheVariants.{Opened, Promised, Voted, Held}
use Rattle.ballots.specs.declared.message.Note.{Note}
use Rattle.turn_rules.specs.Own.{IsFree}
use Rattle.turn_rules.specs.Pending.{Pending, has_failed}
use Rattle.protocol.specs.State.{State, Value}

-- Below the position the only queued packages are those whose units failed.
abbrev pub AllFailedBelow : State → Pending → ℕ → Type 0
AllFailedBelow s p position = (k : ℕ) → k < position → ¬ IsFree s (has_failed p) k

-- Whether the fact is that a build is held.
abbrev pub tells_held : Fact Value → Bool
tells_held (Opened round) = false
tells_held (Promised c) = false
tells_held (Voted c v) = false
tells_held (Held v) = true

-- Whether there is a note, and it says that a build is held.
abbrev pub notes_held : Option (Note Value) → Bool
notes_held None = false
notes_held (Some n) = tells_held n.fact
