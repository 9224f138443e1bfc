-- How contracts see a prepared step, and when it may be taken.
use Rattle.std.specs.Prelude.{ℕ, List, Option, None, Some, option_and_then, option_map, Ok}
use Rattle.claims.specs.Votes.{ballot, report_of}
use Rattle.claims.specs.Job.{Task}
use Rattle.ballots.specs.declared.claimer.ClaimerChange.{ClaimerChange}
use Rattle.ballots.specs.declared.claimer.ClaimerChange.TheVariants as change
use Rattle.ballots.specs.declared.message.Note.{Note}
use Rattle.protocol.specs.State.{Gathering, Building, Voting, OpenClaim, Progress, State, Value}
use Rattle.protocol.specs.Member.{IsInput, claim_in}
use Rattle.protocol.specs.Answers.{Answer}
use Rattle.protocol.specs.Step.{Answers}
use Rattle.protocol.specs.declared.input.Input.{Input}
use Rattle.protocol.specs.declared.sends.Send.{Send}
use Rattle.member.specs.OpenClaims.{IsTallyOf, IsWeighedBy, joined_in, open_of}
use Rattle.member.specs.declared.step.ClaimChange.{ClaimChange}
use Rattle.member.specs.declared.step.ClaimChange.TheVariants.{Stays, Becomes, Ends, Counts}

-- a prepared step: its note, its messages, its job, and its change of the open claim
pub record Prepared : Type 0 where
  pub note : Option (Note Value)
  pub sends : List Send
  pub job : Option Task
  pub change : ClaimChange

-- the claim's progress after a promise or a vote is counted, or None if the claim ends
abbrev pub counted : ClaimerChange Value → Progress → Option Progress
counted change.Stays p = Some p
counted (change.Joins t report) (Gathering c joined k) =
    Some (Gathering c (joined_in t) (report_of report))
counted (change.Joins t report) (Building c) = Some (Building c)
counted (change.Joins t report) (Voting b joined) = Some (Voting b (joined_in t))
counted change.Builds p = Some (Building (claim_in p))
counted (change.Proposes v t) p = Some (Voting (ballot (claim_in p) v) (joined_in t))
counted change.Ends p = None

-- the claim with this progress
abbrev pub moved : OpenClaim → Progress → OpenClaim
moved o progress = record o { progress = progress }

-- the claim that is open after the change
abbrev pub changed : ClaimChange → Option OpenClaim → Option OpenClaim
changed Stays claim = claim
changed (Becomes o) claim = Some (open_of o)
changed Ends claim = None
changed (Counts change) claim =
    option_and_then (λ o. option_map (moved o) (counted change o.progress)) claim

-- the member's answer that the step is
abbrev pub answer_by : State → Prepared → Answer
answer_by s p =
    record { note = p.note; sends = p.sends; job = p.job; claim = changed p.change s.claim }

-- The tally that the claim gets, if it gets a new one, has these weights and counts only members.
abbrev pub IsCountWeighedBy : List ℕ → ClaimerChange Value → Progress → Type 0
IsCountWeighedBy weights change.Stays p = Unit {0}
IsCountWeighedBy weights (change.Joins t report) (Gathering c joined k) = IsTallyOf weights t
IsCountWeighedBy weights (change.Joins t report) (Building c) = Unit {0}
IsCountWeighedBy weights (change.Joins t report) (Voting b joined) = IsTallyOf weights t
IsCountWeighedBy weights change.Builds p = Unit {0}
IsCountWeighedBy weights (change.Proposes v t) p = IsTallyOf weights t
IsCountWeighedBy weights change.Ends p = Unit {0}

-- The claimer after the change, if the change sets one or its tally, has these weights.
abbrev pub IsChangeWeighedBy : List ℕ → ClaimChange → Option OpenClaim → Type 0
IsChangeWeighedBy weights Stays claim = Unit {0}
IsChangeWeighedBy weights (Becomes o) claim = IsWeighedBy weights o.claimer
IsChangeWeighedBy weights Ends claim = Unit {0}
IsChangeWeighedBy weights (Counts change) None = Unit {0}
IsChangeWeighedBy weights (Counts change) (Some o) = IsCountWeighedBy weights change o.progress

-- The step may be taken: it is the member's answer in this state to some input, and its tally has
-- the member's weights.
pub record MayBeTaken (s : State) (p : Prepared) : Type 0 where
  pub input : Input
  pub in_range : IsInput input
  pub answers : Answers s input (Ok (answer_by s p))
  pub weighed : IsChangeWeighedBy s.weights p.change s.claim
