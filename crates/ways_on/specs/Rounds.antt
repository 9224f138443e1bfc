-- The round that a new claim of a unit must exceed, and whether a round is left for it.
use Rattle.std.specs.Prelude.{ℕ, suc, max, Bool, List, Option, None, Some, fold, length, map, nat_lt, slice_get, if◌then◌else◌}
use Rattle.std.specs.List.{range_with_len}
use Rattle.claims.specs.Member.{Facts, no_facts}
use Rattle.claims.specs.declared.claim.Claim.{Claim}
use Rattle.claims.specs.Claim.{greatest_round}
use Rattle.protocol.specs.State.{Value, facts_at}
use Rattle.world.specs.World.{World, WorldNode, member_at}

-- what a node that is up knows of the unit; nothing if the node is down or doesn't exist
abbrev pub seen_of : World → ℕ → ℕ → Option WorldNode → Facts Value
seen_of w u k None = no_facts
seen_of w u k (Some x) = if x.up then facts_at (member_at w k x) u else no_facts

-- what node k knows of the unit, if it is up
abbrev pub seen_at : World → ℕ → ℕ → Facts Value
seen_at w u k = seen_of w u k (slice_get w.nodes k)

-- the round of the promised claim, or 0
abbrev pub round_in : Option Claim → ℕ
round_in None = 0
round_in (Some c) = c.round

-- the rounds promised for the unit at nodes that are up
abbrev pub rounds_promised : World → ℕ → List ℕ
rounds_promised w u =
    map (λ k. round_in (seen_at w u k).promised) (range_with_len 0 (length w.nodes))

-- the greatest round that node k opened for the unit, or that any node that is up promised for it
abbrev pub last_round : World → ℕ → ℕ → ℕ
last_round w u k = fold max (seen_at w u k).opened (rounds_promised w u)

-- Whether a round is left: neither the round that node k opened for the unit nor one promised for
-- it at a node that is up is the greatest possible round.
abbrev pub is_round_left : World → ℕ → ℕ → Bool
is_round_left w u k = nat_lt (last_round w u k) greatest_round

-- node k's claim in the round above these
abbrev pub next_claim : World → ℕ → ℕ → Claim
next_claim w u k = record { round = suc (last_round w u k); member = k }
