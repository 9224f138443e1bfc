-- The invariant of members and of inputs.
use Rattle.std.specs.Prelude.{◌≡◌, ◌<◌, ◌≤◌, ℕ, true, false, All, List, [], None, Some, length}
use Rattle.std.specs.Option.{ForSome}
use Rattle.claims.specs.Quorums.{is_majority, named_in}
use Rattle.claims.specs.declared.claim.Claim.{Claim}
use Rattle.claims.specs.Claim.{IsClaim}
use Rattle.engine.specs.Division.{IsDivision, unit_at}
use Rattle.ballots.specs.Pledge.{HasPromised}
use Rattle.ballots.specs.Weights.{AreWeights}
use Rattle.protocol.specs.State.{OpenClaim, Progress, Gathering, Building, Voting, State, facts_at}
use Rattle.protocol.specs.State.{holds_package}
use Rattle.protocol.specs.InTheAgreement.{progress_of, stage_of}
use Rattle.protocol.specs.declared.input.Input.{Input}
use Rattle.protocol.specs.declared.input.Input.TheVariants as inputs

-- the claim whose progress this is
abbrev pub claim_in : Progress → Claim
claim_in (Gathering c joined k) = c
claim_in (Building c) = c
claim_in (Voting b joined) = b.claim

-- the members that joined so far
abbrev pub joined_so_far : Progress → List ℕ
joined_so_far (Gathering c joined k) = joined
joined_so_far (Building c) = []
joined_so_far (Voting b joined) = joined

-- An open claim is the member's own, for a unit that is not held and whose build needs only what is
-- held. Those that joined are members, each once, in order of number, and not yet a majority.
pub record IsOpen (s : State) (o : OpenClaim) : Type 0 where
  pub unit : o.unit < length s.division.units
  pub not_held : (facts_at s o.unit).held ≡ None
  pub host : o.host ≤ 65535
  pub claim : IsClaim (claim_in o.progress)
  pub own : (claim_in o.progress).member ≡ s.me
  pub joined : progress_of (length s.weights) (stage_of o.progress) ≡ Some o.progress
  pub short : is_majority s.weights (named_in (joined_so_far o.progress)) ≡ false
  pub ready : All (λ p. holds_package s p ≡ true) (unit_at s.division o.unit).build

-- the invariant of a member
pub record IsMember (s : State) : Type 0 where
  pub division : IsDivision s.division
  pub weights : AreWeights s.weights
  pub one_of_them : s.me < length s.weights
  pub each : length s.facts ≡ length s.division.units
  -- a member that has promised nothing has voted for nothing
  pub pledged : All (λ f. HasPromised f.promised f.voted) s.facts
  pub claim : ForSome s.claim (IsOpen s)

-- The input's host number is in range.
abbrev pub IsInput : Input → Type 0
IsInput (inputs.Claim path host above) = host ≤ 65535
IsInput (inputs.Built path given) = Unit {0}
IsInput (inputs.Failed path) = Unit {0}
IsInput inputs.Nudge = Unit {0}
IsInput (inputs.Ask path) = Unit {0}
IsInput (inputs.Message m) = Unit {0}
