use Rattle.std.proofs.Common.{◌≡◌, ◌≤◌, ◌*◌, ℕ, List, sum, take}
use Rattle.claims.specs.Quorums.{named_in, weight}
use Rattle.claims.proofs.quorum.is_majority.Given as goal

-- the weights of the first k members are added, and the sums are small
pub record IsAdded (weights members : List ℕ) (k all named : ℕ) : Type 0 where
  pub total : all ≡ sum (take k weights)
  pub part : named ≡ weight (take k weights) (named_in members)
  pub small : all ≤ 255 * k
  pub within : named ≤ all

abbrev pub invariant-loop-member : goal.invariant-loop-member
invariant-loop-member l = IsAdded l.weights l.members l.member l.all l.named
