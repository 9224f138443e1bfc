-- How contracts see an open claim.
use Rattle.std.specs.Prelude.{◌≡◌, ◌<◌, ℕ, true, List, length}
use Rattle.claims.specs.Quorums.{Members, nobody}
use Rattle.claims.specs.Votes.{ballot, report_of}
use Rattle.ballots.specs.InTheAgreement.{weights_of}
use Rattle.ballots.specs.Support.{Support, set_of}
use Rattle.ballots.specs.declared.claimer.Claimer.{Claimer}
use Rattle.ballots.specs.declared.claimer.Claimer.TheVariants as claimers
use Rattle.protocol.specs.State.{Gathering, Building, Voting, OpenClaim, Progress, Value}
use Rattle.protocol.specs.InTheAgreement.{members_in}
use Rattle.member.specs.declared.open_claim.OpenClaim as code

-- the members that joined, in ascending order
abbrev pub joined_in : Support → List ℕ
joined_in t = members_in (length t.weights) (set_of t)

-- the progress of a claimer
abbrev pub progress_of_claimer : Claimer Value → Progress
progress_of_claimer (claimers.Gathering c t k) = Gathering c (joined_in t) (report_of k)
progress_of_claimer (claimers.Building c weights) = Building c
progress_of_claimer (claimers.Voting c v t) = Voting (ballot c v) (joined_in t)

-- the open claim, as contracts see it
abbrev pub open_of : code.OpenClaim → OpenClaim
open_of o = record { unit = o.unit; host = o.host; progress = progress_of_claimer o.claimer }

-- those that joined the claim
abbrev pub supporters_of : Claimer Value → Members
supporters_of (claimers.Gathering c t k) = set_of t
supporters_of (claimers.Building c weights) = nobody
supporters_of (claimers.Voting c v t) = set_of t

-- The tally has these weights, and counts only members.
pub record IsTallyOf (weights : List ℕ) (t : Support) : Type 0 where
  pub same : t.weights ≡ weights
  pub within : (k : ℕ) → set_of t k ≡ true → k < length weights

-- The claimer has these weights, and counts only members.
pub record IsWeighedBy (weights : List ℕ) (o : Claimer Value) : Type 0 where
  pub same : weights_of o ≡ weights
  pub within : (k : ℕ) → supporters_of o k ≡ true → k < length weights
