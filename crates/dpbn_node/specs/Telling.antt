-- When a node's line is printed, which faults of its turns are printed, and how long a member has
-- been silent.
use Rattle.std.specs.Prelude.{◌≡◌, ◌⊎◌, ℕ, Bool, true, false, List, Option, None, Some, ◌-◌, ◌/◌, if◌then◌else◌, nat_le, not}
use Rattle.std.specs.Time.{instant_nanos}
use Rattle.std.specs.declared.time.Instant.{Instant}
use Rattle.dpbn_node.specs.Repeats.{is_known, noted}
use Rattle.dpbn_node.specs.declared.repeats.Repeated.{Repeated}
use Rattle.program_io.specs.declared.refusal.Refusal.{Refusal}

-- whether the line is due after a turn, if it is printed every `progress` turns and is due in
-- `left` turns
abbrev pub is_due : Option ℕ → ℕ → Bool
is_due None left = false
is_due (Some progress) left = nat_le left 1

-- in how many turns the line is due afterwards
abbrev pub left_after : Option ℕ → ℕ → ℕ
left_after None left = left
left_after (Some progress) left = if nat_le left 1 then progress else left - 1

-- Whether a fault is printed, by what was known before it and what is known after it. If members
-- aren't watched, each fault is printed. Otherwise a fault is printed if its number isn't known
-- yet, and each is noted, except that a printed one isn't noted if memory runs out.
abbrev pub IsToldNow : Refusal → Bool → List Repeated → List Repeated → Bool → Type 0
IsToldNow fault false old new is_told = (is_told ≡ true) × (new ≡ old)
IsToldNow fault true old new is_told =
    (is_told ≡ not (is_known fault.number old))
    × ((new ≡ noted old fault) ⊎ ((is_told ≡ true) × (new ≡ old)))

-- the whole seconds between two times, if both are known
abbrev pub seconds_since : Option Instant → Option Instant → Option ℕ
seconds_since None now = None
seconds_since (Some last) None = None
seconds_since (Some last) (Some now) = Some ((instant_nanos now - instant_nanos last) / 1000000000)
