-- The weights of members.
use Rattle.std.specs.Prelude.{◌≡◌, ℕ, Bool, true, ◌&&◌, List, length, nat_le}
use Rattle.std.specs.List.{list_all}
use Rattle.claims.specs.Claim.{most_members}
use Rattle.ballots.specs.declared.weights.TheConstants.{GREATEST_WEIGHT}

-- a member's weight is 1 to 100
abbrev pub is_weight : ℕ → Bool
is_weight w = nat_le 1 w && nat_le w GREATEST_WEIGHT

-- one to nine members, each of which has a weight
abbrev pub are_weights : List ℕ → Bool
are_weights weights =
    nat_le 1 (length weights) && nat_le (length weights) most_members && list_all is_weight weights

-- valid weights; the first member's weight is first
abbrev pub AreWeights : List ℕ → Type 0
AreWeights weights = are_weights weights ≡ true
