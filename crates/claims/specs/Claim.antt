-- The limits of claims, their order, and which claims a member can have made.
use Rattle.claims.specs.declared.claim.Claim.{Claim}
use Rattle.claims.specs.declared.TheConstants.{GREATEST_ROUND, MEMBERS}
use Rattle.std.specs.Prelude.{◌<◌, ◌≤◌, ℕ, Option}
use Rattle.std.specs.Option.{option_cmp}
use Rattle.std.specs.Ordering.{nat_cmp, on, then_cmp}
use Rattle.std.specs.declared.cmp.Ordering.{Ordering}

-- The greatest round that a claim may have.
abbrev pub greatest_round : ℕ
greatest_round = GREATEST_ROUND

-- The maximum number of members. They are numbered from 0.
abbrev pub most_members : ℕ
most_members = MEMBERS

-- By round, and then by member.
abbrev pub claim_cmp : Claim → Claim → Ordering
claim_cmp = then_cmp (on (λ c. c.round) nat_cmp) (on (λ c. c.member) nat_cmp)

-- Having promised nothing is below every claim.
abbrev pub promised_cmp : Option Claim → Option Claim → Ordering
promised_cmp = option_cmp claim_cmp

-- A valid round: from 1 to the greatest round.
abbrev pub IsRound : ℕ → Type 0
IsRound round = (1 ≤ round) × (round ≤ greatest_round)

-- A claim that a member can have made.
pub record IsClaim (c : Claim) : Type 0 where
  pub round : IsRound c.round
  pub member : c.member < most_members
