-- Statistics for each member.
use Rattle.std.specs.Prelude.{ℕ, List, [], ◌∷◌, Option, zero, suc}
use Rattle.std.specs.declared.time.Instant.{Instant}
use Rattle.datagram_ports.specs.Kept.{one_more}
use Rattle.udp.specs.declared.inbox.Came.{Came}
use Rattle.udp.specs.declared.inbox.Came.TheVariants.{Lost, Repeated, Unsealed, Waits}
use Rattle.udp.specs.declared.tallies.Tally.{Tally}

-- applies a function to one member's tally
abbrev pub with_tally : (Tally → Tally) → ℕ → List Tally → List Tally
with_tally goes member [] = []
with_tally goes zero (tally ∷ tallies) = goes tally ∷ tallies
with_tally goes (suc member) (tally ∷ tallies) = tally ∷ with_tally goes member tallies

-- A member's tally after this was done with bytes from its address. Texts of the run count as
-- heard, with their time; dropped requests as repeats; and other bytes as unsealed.
abbrev pub after : Option Instant → Came → Tally → Tally
after now Waits tally = record tally { heard = one_more tally.heard; last = now }
after now Lost tally = record tally { heard = one_more tally.heard; last = now }
after now Unsealed tally = record tally { unsealed = one_more tally.unsealed }
after now Repeated tally = record tally { repeats = one_more tally.repeats }

-- a member's tally after one more datagram to it was lost
abbrev pub unsent_once_more : Tally → Tally
unsent_once_more tally = record tally { unsent = one_more tally.unsent }
