-- What a scheduler wishes of a node that builds with others. A node sees what others build by its
-- own promises.
use Rattle.std.specs.Prelude.{◌≡◌, ◌==◌, ◌&&◌, ◌||◌, ℕ, Bool, false, not, List, Option, None, Some, nat_le, option_map}
use Rattle.std.specs.List.{list_any}
use Rattle.claims.specs.declared.claim.Claim.{Claim as BallotNumber}
use Rattle.claims.specs.Claim.{greatest_round}
use Rattle.listing.specs.Tree.{path_at}
use Rattle.engine.specs.Division.{number_of}
use Rattle.engine.specs.State.{IsQueuedFrom}
use Rattle.protocol.specs.State.{State, engine_of, facts_at}
use Rattle.turn_rules.specs.Own.{Barred, IsLeastFree}
use Rattle.turn_rules.specs.declared.wish.Wish.{Wish}
use Rattle.turn_rules.specs.declared.wish.Wish.TheVariants.{Claim, Ask}

-- Whether the claim is another member's.
abbrev pub is_of_another : ℕ → Option BallotNumber → Bool
is_of_another me None = false
is_of_another me (Some c) = not (c.member == me)

-- Whether the last claim that the member promised for the unit is another member's, which builds it
-- or did so.
abbrev pub is_away : State → ℕ → Bool
is_away s u = is_of_another s.me (facts_at s u).promised

-- the round of the claim, or 0
abbrev pub round_of : Option BallotNumber → ℕ
round_of None = 0
round_of (Some c) = c.round

-- Whether the last claim that the member promised for the unit has the greatest possible round, so
-- that no claim for the unit can exceed it.
abbrev pub is_spent : State → ℕ → Bool
is_spent s u = nat_le greatest_round (round_of (facts_at s u).promised)

-- A unit is barred if it is among `units`; if another member builds it, unless it is to be taken
-- over; or if nobody can claim it any more.
abbrev pub barred_by : State → List ℕ → List ℕ → Barred
barred_by s units over u =
    list_any (λ v. v == u) units
    || (is_away s u && not (list_any (λ v. v == u) over))
    || is_spent s u

-- the round of the last claim that the member promised for the unit, or 0
abbrev pub promised_round : State → Option ℕ → ℕ
promised_round s None = 0
promised_round s (Some u) = round_of (facts_at s u).promised

-- the wish to claim the package's unit, above what the member promised
abbrev pub claim_at : State → ℕ → Wish
claim_at s p = Claim (path_at s.division.tree p) (promised_round s (number_of s.division p))

-- It is the wish to claim the least queued package whose unit isn't barred, if there is one.
abbrev pub IsLeastClaim : State → Barred → Option Wish → Type 0
IsLeastClaim s barred wish =
    (least : Option ℕ) × IsLeastFree s barred least × (wish ≡ option_map (claim_at s) least)

-- the wish to ask for the package's unit
abbrev pub ask_at : State → ℕ → Wish
ask_at s p = Ask (path_at s.division.tree p)

-- It is the wish to ask for the first queued package from this position on.
abbrev pub IsNextAsk : State → ℕ → Option (ℕ × Wish) → Type 0
IsNextAsk s from ask =
    (next : Option ℕ) × IsQueuedFrom (engine_of s) from next
    × (ask ≡ option_map (λ p. (p, ask_at s p)) next)
