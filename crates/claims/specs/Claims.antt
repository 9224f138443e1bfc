-- Claims (ballot numbers) and their order: by round, then by member.
pub use Rattle.claims.specs.declared.claim.Claim.{Claim}
use Rattle.std.specs.Prelude.{◌≡◌, ◌≤◌, ◌<◌, Bool, false, true, ◌&&◌, ◌||◌, ◌==◌, nat_lt, Option}
use Rattle.std.specs.Prelude.{None, Some}

-- c is before d: its round is less, or the rounds are equal and its member is less.
abbrev pub Below : Claim → Claim → Type 0
Below c d = (c.round ≤ d.round) × (c.round ≡ d.round → c.member < d.member)

-- c is before d, or equal to it.
abbrev pub AtMost : Claim → Claim → Type 0
AtMost c d = (c.round ≤ d.round) × (c.round ≡ d.round → c.member ≤ d.member)

-- Whether c is before d.
abbrev pub claim_below : Claim → Claim → Bool
claim_below c d = nat_lt c.round d.round || (c.round == d.round && nat_lt c.member d.member)

-- Whether c and d are equal.
abbrev pub claim_same : Claim → Claim → Bool
claim_same c d = c.round == d.round && c.member == d.member

-- Whether c is above what is promised, which is true if nothing is promised.
abbrev pub is_above : Claim → Option Claim → Bool
is_above c None = true
is_above c (Some p) = claim_below p c

-- Whether c is below what is promised, which is false if nothing is promised.
abbrev pub is_below : Claim → Option Claim → Bool
is_below c None = false
is_below c (Some p) = claim_below c p

-- Whether c is the promised claim.
abbrev pub is_promised : Claim → Option Claim → Bool
is_promised c None = false
is_promised c (Some p) = claim_same c p
