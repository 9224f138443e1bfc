-- What a member knows, notes and sends can be encoded: numbers are in range, and builds are of
-- their units.
use Rattle.std.specs.Prelude.{◌≡◌, ◌<◌, ◌≤◌, ℕ, All, List, Option, None, Some, Ok, length}
use Rattle.std.specs.Option.{ForSome}
use Rattle.faults.specs.Bytes.{Text}
use Rattle.claims.specs.Votes.{Ballot}
use Rattle.claims.specs.Member as members
use Rattle.claims.specs.Member.{Facts}
use Rattle.claims.specs.Messages as messages
use Rattle.claims.specs.Step.{Outcome}
use Rattle.claims.specs.Claim.{IsClaim, IsRound, greatest_round}
use Rattle.engine.specs.declared.Letter.{Letter}
use Rattle.ballots.specs.Weights.{AreWeights}
use Rattle.ballots.specs.declared.message.Note.{Note}
use Rattle.engine.specs.Division.{Division, IsDivision, number_named}
use Rattle.protocol.specs.Answers.{Answer}
use Rattle.protocol.specs.Restoring.{AreOnUnits, restored}
use Rattle.protocol.specs.Member.{IsMember}
use Rattle.protocol.specs.State.{Gathering, Building, OpenClaim, Progress, State, Value, Voting, facts_at, fresh, name_at}
use Rattle.protocol.specs.Step.{answer}
use Rattle.protocol.specs.declared.input.Input.{Input}
use Rattle.protocol.specs.declared.input.Input.TheVariants as inputs
use Rattle.wire.specs.Messages.{IsBuildOf, IsGoodBody, IsMessage, IsNote}

-- a vote that can be encoded
abbrev pub IsVoteFor : Text → Ballot Value → Type 0
IsVoteFor name b = IsClaim b.claim × IsBuildOf name b.value

-- what is known of the unit of this name can be encoded
pub record AreFactsOf (name : Text) (f : Facts Value) : Type 0 where
  pub opened : f.opened ≤ greatest_round
  pub promised : ForSome f.promised IsClaim
  pub voted : ForSome f.voted (IsVoteFor name)
  pub held : ForSome f.held (IsBuildOf name)

-- a note that can be encoded
abbrev pub IsTold : Text → members.Note Value → Type 0
IsTold name (members.Opened round) = IsRound round
IsTold name (members.Promised c) = IsClaim c
IsTold name (members.Voted b) = IsVoteFor name b
IsTold name (members.Held v) = IsBuildOf name v

-- a message that can be encoded
abbrev pub IsSayable : Text → messages.Message Value → Type 0
IsSayable name (messages.Offer c) = IsClaim c
IsSayable name (messages.Promise p) = IsClaim p.claim × ForSome p.report (IsVoteFor name)
IsSayable name (messages.Propose b) = IsVoteFor name b
IsSayable name (messages.Vote m c) = IsClaim c
IsSayable name (messages.Nay m c p) = IsClaim c × ForSome p IsClaim
IsSayable name (messages.Agreed v) = IsBuildOf name v
IsSayable name messages.Ask = Unit {0}

-- what an open claim keeps can be encoded
abbrev pub IsStageOf : Text → members.Stage Value → Type 0
IsStageOf name members.Closed = Unit {0}
IsStageOf name (members.Gathering c S k) = IsClaim c × ForSome k (IsVoteFor name)
IsStageOf name (members.Building c) = IsClaim c
IsStageOf name (members.Voting b S) = IsVoteFor name b

-- an outcome whose parts can all be encoded
pub record IsOutcomeOf (name : Text) (o : Outcome Value) : Type 0 where
  pub note : ForSome o.note (IsTold name)
  pub send : ForSome o.send (IsSayable name)
  pub stage : IsStageOf name o.member.stage

-- The report and the proposal that an open claim keeps for the unit of this name can be encoded.
abbrev pub IsProgressOf : Text → Progress → Type 0
IsProgressOf name (Gathering c joined None) = Prim.Unit {0}
IsProgressOf name (Gathering c joined (Some b)) = IsClaim b.claim × IsBuildOf name b.value
IsProgressOf name (Building c) = Prim.Unit {0}
IsProgressOf name (Voting b joined) = IsBuildOf name b.value

-- what the member's open claim keeps can be encoded
abbrev pub IsClaimOf : State → Option OpenClaim → Type 0
IsClaimOf s claim = ForSome claim (λ o. IsProgressOf (name_at s o.unit) o.progress)

-- all that the member knows can be encoded, and what its open claim keeps
pub record IsInRange (s : State) : Type 0 where
  pub facts : (u : ℕ) → u < length s.division.units → AreFactsOf (name_at s u) (facts_at s u)
  pub claim : IsClaimOf s s.claim

-- If the input is a message, its rounds are in range, and a build in it is of its unit. Its members
-- are tested when it is handled.
abbrev pub IsGoodInput : Input → Type 0
IsGoodInput (inputs.Claim path host above) = Prim.Unit {0}
IsGoodInput (inputs.Built path files) = Prim.Unit {0}
IsGoodInput (inputs.Failed path) = Prim.Unit {0}
IsGoodInput inputs.Nudge = Prim.Unit {0}
IsGoodInput (inputs.Ask path) = Prim.Unit {0}
IsGoodInput (inputs.Message m) = IsGoodBody m.path m.body

-- the answer can be encoded, and what the claim that it leaves open keeps
pub record CanBeWritten (s : State) (a : Answer) : Type 0 where
  pub note : ForSome a.note IsNote
  -- and its note is about a unit
  pub named : ForSome a.note (λ n. (u : ℕ) × (number_named s.division n.path ≡ Some u))
  pub sends : All (λ x. IsMessage x.message) a.sends
  pub claim : IsClaimOf s a.claim

-- each answer of such a member to such an input can be encoded
abbrev pub AnswersCanBeWritten : Type 0
AnswersCanBeWritten =
    (s : State) (letter : Letter) (input : Input) (a : Answer)
    → IsMember s → IsInRange s → IsGoodInput input → answer s letter input ≡ Ok a → CanBeWritten s a

-- what a member restores from such notes can be encoded again
abbrev pub WhatIsRestoredCanBeWritten : Type 0
WhatIsRestoredCanBeWritten =
    (d : Division) (weights : List ℕ) (me : ℕ) (notes : List (Note Value))
    → IsDivision d → AreWeights weights → me < length weights → AreOnUnits d notes
    → All IsNote notes → IsInRange (restored (fresh d weights me) notes)
