-- How long is waited, and for whom.
use Rattle.std.specs.Prelude.{◌≡◌, ◌-◌, ◌*◌, ◌+◌, ◌&&◌, ℕ, Bool, true, false, not, IfSome, None, Option, Some, if◌then◌else◌, is_some, min, nat_le}
use Rattle.std.specs.Time.{instant_nanos}
use Rattle.std.specs.declared.time.Instant.{Instant}
use Rattle.std.specs.Duration.{as_nanos, max_nanos}
use Rattle.std.specs.declared.time.Duration.{Duration}
use Rattle.claims.specs.Claims.{claim_same, is_above}
use Rattle.claims.specs.declared.claim.Claim.{Claim}
use Rattle.turn_rules.specs.Own.{IsLeastFree}
use Rattle.protocol.specs.State.{State, facts_at}
use Rattle.scheduler.specs.declared.seen.Seen.{Seen}
use Rattle.scheduler.specs.declared.heard.GivenBack.{GivenBack}
use Rattle.scheduler.specs.declared.heard.Named.{Named}

-- Whether this number of nanoseconds has passed since then.
abbrev pub has_passed : ℕ → Instant → Instant → Bool
has_passed nanos since now = nat_le nanos (instant_nanos now - instant_nanos since)

-- Whether a wait of this length is over that began then.
abbrev pub is_over : Duration → Instant → Instant → Bool
is_over wait since now = has_passed (as_nanos wait) since now

-- ---- since when units are promised as they are

-- by unit, what was seen of it
abbrev pub SeenBy : Type 0
SeenBy = ℕ → Option Seen

-- Whether both are the same claim, or both none.
abbrev pub is_same_promise : Option Claim → Option Claim → Bool
is_same_promise (Some c) (Some d) = claim_same c d
is_same_promise (Some c) None = false
is_same_promise None (Some d) = false
is_same_promise None None = true

-- Since when a unit has this promise, by what was seen of it before: since then, if it had the same
-- one; else since now.
abbrev pub since_of : Option Seen → Option Claim → Instant → Instant
since_of None promised now = now
since_of (Some seen) promised now =
    if is_same_promise seen.promised promised then seen.since else now

-- That is what the member promised last for the unit, and since when.
abbrev pub IsSeen : State → SeenBy → Instant → ℕ → Seen → Type 0
IsSeen s before now u seen =
    ((facts_at s u).promised ≡ seen.promised)
    × (seen.since ≡ since_of (before u) seen.promised now)

-- So it is of all of these.
abbrev pub AreSince : State → SeenBy → Instant → SeenBy → Type 0
AreSince s before now seen = (u : ℕ) → IfSome (seen u) (IsSeen s before now u)

-- Whether the unit is among these.
abbrev pub is_seen : SeenBy → ℕ → Bool
is_seen seen u = is_some (seen u)

-- So it is of these, and no package is queued whose unit is not among them.
abbrev pub AreSeen : State → SeenBy → Instant → SeenBy → Type 0
AreSeen s before now seen = AreSince s before now seen × IsLeastFree s (is_seen seen) None

-- Since when the unit has the promise that it has now, if it was seen with that.
abbrev pub since_promised : Option Claim → Option Seen → Option Instant
since_promised promised None = None
since_promised promised (Some seen) =
    if is_same_promise seen.promised promised then Some seen.since else None

-- Whether this number of nanoseconds has passed, if it is known since when.
abbrev pub has_waited : ℕ → Option Instant → Instant → Bool
has_waited nanos None now = false
has_waited nanos (Some since) now = has_passed nanos since now

-- ---- what others said of units

-- Whether a nay named a claim above the one that was promised, lately, so that the unit is left to
-- that one's member.
abbrev pub is_named : Duration → Instant → Option Claim → Option Named → Bool
is_named wait now promised None = false
is_named wait now promised (Some n) = is_above n.claim promised && not (is_over wait n.since now)

-- the round of the claim that a nay named, or 0
abbrev pub round_named : Option Named → ℕ
round_named None = 0
round_named (Some n) = n.claim.round

-- That the unit was given back, if it was under the claim that was promised last.
abbrev pub back_of : Option Claim → Option GivenBack → Option GivenBack
back_of None back = None
back_of (Some c) None = None
back_of (Some c) (Some back) = if claim_same back.claim c then Some back else None
