-- How contracts see a table of weights, and what they don't see.
use Rattle.std.specs.Prelude.{◌≤◌, ℕ, List, take}
use Rattle.claims.specs.Claim.{most_members}
use Rattle.ballots.specs.Weights.{AreWeights}
use Rattle.ballots.specs.declared.weights.Weights.TheInside.{Inside}

-- the weights in the table
abbrev pub in_table : Inside → List ℕ
in_table w = take w.count w.table

-- The table has valid weights.
pub record AreInTable (w : Inside) : Type 0 where
  pub within : w.count ≤ most_members
  pub weights : AreWeights (in_table w)
