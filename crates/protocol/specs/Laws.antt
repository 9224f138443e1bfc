-- Laws of members.
use Rattle.std.specs.Prelude.{◌≡◌, ◌<◌, ◌≤◌, ℕ, Bool, true, false, All, Any, List, [], Option, None}
use Rattle.std.specs.Prelude.{Some, length, map, filter, reverse, option_map, Result, Ok}
use Rattle.std.specs.Prelude.{◌⊎◌}
use Rattle.std.specs.Option.{ForSome}
use Rattle.std.specs.Str.{bytes_eq}
use Rattle.faults.specs.Bytes.{Text}
use Rattle.package_record.specs.Content.{Content}
use Rattle.claims.specs.declared.claim.Claim.{Claim}
use Rattle.claims.specs.Quorums.{is_majority}
use Rattle.claims.specs.Member as members
use Rattle.claims.specs.Messages as messages
use Rattle.claims.specs.Nodes as nodes
use Rattle.claims.specs.Step as theory
use Rattle.claims.specs.Claim.{IsClaim}
use Rattle.claims.specs.Job.{Task}
use Rattle.engine.specs.Tree.{path_at}
use Rattle.faults.specs.Pieces.{set_of}
use Rattle.package_record.specs.Build.{IsBuild, unit_path}
use Rattle.package_record.specs.Making.{build_fault}
use Rattle.engine.specs.Division.{Division, IsDivision, number_named, unit_at}
use Rattle.ballots.specs.InTheAgreement.{note_of, said}
use Rattle.ballots.specs.Weights.{AreWeights}
use Rattle.ballots.specs.declared.message.Body.TheVariants.{Promise}
use Rattle.ballots.specs.declared.message.Message.{Message}
use Rattle.ballots.specs.declared.message.Note.{Note}
use Rattle.engine.specs.declared.Letter.{Letter}
use Rattle.protocol.specs.State.{Building, OpenClaim, State, Value, facts_at, fresh, held_record}
use Rattle.protocol.specs.State.{holds_package}
use Rattle.protocol.specs.State.{name_at}
use Rattle.protocol.specs.Member.{IsInput, IsMember}
use Rattle.protocol.specs.InTheAgreement.{node_of, view}
use Rattle.protocol.specs.Given.{Given}
use Rattle.protocol.specs.Jobs.{build_by, deps_of, job_of, signature}
use Rattle.protocol.specs.Answers.{Answer, after, tree_digest}
use Rattle.protocol.specs.Step.{Answers, answer, host_in, outcome_of, unit_in}
use Rattle.protocol.specs.Restoring.{AreOnUnits, restored}
use Rattle.protocol.specs.declared.refusal.Refusal.{Refusal}
use Rattle.protocol.specs.declared.input.Input.{Input}
use Rattle.protocol.specs.declared.input.Input.TheVariants as inputs

-- Each input has one answer.
abbrev pub OnlyOneAnswerIsRight : Type 0
OnlyOneAnswerIsRight = (s : State) (input : Input) (a b : Result Answer Refusal) → Answers s input a
    → Answers s input b → a ≡ b

-- ---- the theory's steps

-- The message is the theory's, about the unit, from this member to members with the same tree.
pub record Says (s : State) (u : ℕ) (what : Option (messages.Message Value)) (m : Message Value) :
    Type 0 where
  pub sender : m.sender ≡ s.me
  pub tree : m.tree ≡ tree_digest s.division.tree
  pub path : m.path ≡ name_at s u
  pub body : what ≡ Some (said s.me m.body)

-- Whether the message has a receiver however many members there are. What is sent to all others has
-- none if the member is the only one.
abbrev pub must_go_out : messages.Message Value → Bool
must_go_out (messages.Agreed v) = false
must_go_out messages.Ask = false
must_go_out _ = true

-- The answer is this outcome of the theory's node for the unit. Afterwards the member is that node,
-- it notes what the node notes, and it sends exactly what the node says.
pub record IsOutcome (s : State) (u : ℕ) (o : theory.Outcome Value) (a : Answer) : Type 0 where
  pub node : node_of (after s a) ≡ nodes.node_with (node_of s) u o.member
  pub note : option_map (λ n. note_of n.fact) a.note ≡ o.note
  pub noted : ForSome a.note (λ n. n.path ≡ name_at s u)
  pub sends : All (λ x. Says s u o.send x.message) a.sends

-- What the theory says is sent, if it must be: an answer to the claim's member, an offer or a
-- proposal to all.
abbrev pub GoesOut : State → theory.Outcome Value → Answer → Type 0
GoesOut s o a =
    (y : messages.Message Value) → o.send ≡ Some y → must_go_out y ≡ true
    → Any (λ x. said s.me x.message.body ≡ y) a.sends

-- what the theory's member is asked, if the path names a unit
abbrev pub for_unit : Option ℕ → (ℕ → theory.Input Value) → Option (ℕ × theory.Input Value)
for_unit u asks = option_map (λ v. (v, asks v)) u

-- the build that the member makes of the files, for a claim that waits for one
abbrev pub built_at : State → ℕ → Given → members.Stage Value → Value
built_at s u given (members.Building c) = build_by s u (job_of s u (host_in s.claim) c) given
built_at s u given members.Closed = []
built_at s u given (members.Gathering c S k) = []
built_at s u given (members.Voting b S) = []

-- a nudge in the theory, for the open claim
abbrev pub nudged : OpenClaim → ℕ × theory.Input Value
nudged o = (o.unit, theory.Nudge)

-- an input other than a message in the theory: the unit, and what its member is asked
abbrev pub asked : State → Input → Option (ℕ × theory.Input Value)
asked s (inputs.Claim path host above) = for_unit (unit_in s path) (λ u. theory.Start above)
asked s (inputs.Built path given) =
    for_unit (unit_in s path) (λ u. theory.Built (built_at s u given (view s u).stage))
asked s (inputs.Failed path) = for_unit (unit_in s path) (λ u. theory.Failed)
asked s inputs.Nudge = option_map nudged s.claim
asked s (inputs.Ask path) = for_unit (unit_in s path) (λ u. theory.Inquire)
asked s (inputs.Message m) = None

-- The input is not a message.
abbrev pub IsNoMessage : Input → Type 0
IsNoMessage (inputs.Claim path host above) = Unit {0}
IsNoMessage (inputs.Built path given) = Unit {0}
IsNoMessage (inputs.Failed path) = Unit {0}
IsNoMessage inputs.Nudge = Unit {0}
IsNoMessage (inputs.Ask path) = Unit {0}
IsNoMessage (inputs.Message m) = ⊥

-- The member answers as the theory's member for the unit does.
pub record AnswersAsked (s : State) (u : ℕ) (asks : theory.Input Value) (a : Answer) : Type 0 where
  pub outcome : theory.Outcome Value
  pub answers : theory.answer (is_majority s.weights) s.me (view s u) [] asks ≡ Some outcome
  pub is : IsOutcome s u outcome a
  pub out : GoesOut s outcome a

-- The input asks something for a unit, and the member answers it as the theory's does.
pub record AnswersInput (s : State) (input : Input) (a : Answer) : Type 0 where
  pub unit : ℕ
  pub within : unit < length s.division.units
  pub asks : theory.Input Value
  pub is_asked : asked s input ≡ Some (unit, asks)
  pub answers : AnswersAsked s unit asks a

-- An input that is not a message and is not refused is answered as in the theory.
abbrev pub InputsAreAnsweredAsInTheTheory : Type 0
InputsAreAnsweredAsInTheTheory =
    (s : State) (letter : Letter) (input : Input) (a : Answer)
    → IsMember s → IsNoMessage input → answer s letter input ≡ Ok a → AnswersInput s input a

-- The member answers as the theory's member does for the unit that the message names.
pub record AnswersMessage (s : State) (m : Message Value) (a : Answer) : Type 0 where
  pub unit : ℕ
  pub named : number_named s.division m.path ≡ Some unit
  pub within : unit < length s.division.units
  pub is : IsOutcome s unit (outcome_of s unit m.sender m.body) a
  pub out : GoesOut s (outcome_of s unit m.sender m.body) a

-- A message that is not refused is answered as in the theory.
abbrev pub MessagesAreAnsweredAsInTheTheory : Type 0
MessagesAreAnsweredAsInTheTheory =
    (s : State) (letter : Letter) (m : Message Value) (a : Answer)
    → IsMember s → answer s letter (inputs.Message m) ≡ Ok a
    → AnswersMessage s m a

-- ---- what stays

-- A step leaves a valid member.
abbrev pub MembersStayMembers : Type 0
MembersStayMembers =
    (s : State) (input : Input) (a : Answer) → IsMember s → IsInput input → Answers s input (Ok a)
    → IsMember (after s a)

-- Notes leave a valid member. On a fresh one they restore, unit by unit, what the theory restores
-- from them.
pub record NotesRestore (d : Division) (weights : List ℕ) (me : ℕ) (notes : List (Note Value)) :
    Type 0 where
  pub member : IsMember (restored (fresh d weights me) notes)
  pub facts : (u : ℕ) → u < length d.units
      → facts_at (restored (fresh d weights me) notes) u
      ≡ members.restored (reverse
      (map (λ n. note_of n.fact) (filter (λ n. bytes_eq n.path (unit_at d u).name) notes)))

-- This holds for all notes about units.
abbrev pub NotesRestoreFacts : Type 0
NotesRestoreFacts =
    (d : Division) (weights : List ℕ) (me : ℕ) (notes : List (Note Value))
    → IsDivision d → AreWeights weights → me < length weights → AreOnUnits d notes
    → NotesRestore d weights me notes

-- A record that is held stays held.
abbrev pub HeldRecordsStay : Type 0
HeldRecordsStay =
    (s : State) (input : Input) (a : Answer) (path : Text) (r : Content)
    → IsMember s → Answers s input (Ok a) → held_record s path ≡ Some r
    → held_record (after s a) path ≡ Some r

-- ---- jobs

-- While a claim waits for a build, its job stays the same, whatever the member is asked.
abbrev pub JobsStay : Type 0
JobsStay =
    (s : State) (input : Input) (a : Answer) (o : OpenClaim) (c : Claim)
    → IsMember s → Answers s input (Ok a) → s.claim ≡ Some o → o.progress ≡ Building c
    → a.claim ≡ Some o
    → job_of (after s a) o.unit o.host c ≡ job_of s o.unit o.host c

-- The claim is for a unit, and everything that the unit's build needs is held.
pub record IsReady (s : State) (o : OpenClaim) : Type 0 where
  pub unit : o.unit < length s.division.units
  pub ready : All (λ p. holds_package s p ≡ true) (unit_at s.division o.unit).build

-- What the build of an open claim needs was held before the step that left the claim open.
abbrev pub ClaimsWereReady : Type 0
ClaimsWereReady =
    (s : State) (input : Input) (a : Answer) → IsMember s → IsInput input
    → Answers s input (Ok a) → ForSome a.claim (IsReady s)

-- A claim that waits for a build began to wait in this step, which gives its job, or waited before.
abbrev pub WaitingClaimsHaveJobs : Type 0
WaitingClaimsHaveJobs =
    (s : State) (input : Input) (a : Answer) (o : OpenClaim) (c : Claim)
    → IsMember s → Answers s input (Ok a) → a.claim ≡ Some o → o.progress ≡ Building c
    → (a.job ≡ Some (job_of s o.unit o.host c)) ⊎ (s.claim ≡ Some o)

-- The input is a promise of the claim for the unit.
pub record IsPromiseOf (s : State) (u : ℕ) (c : Claim) (input : Input) : Type 0 where
  pub message : Message Value
  pub report : Option (Claim × Value)
  pub is : input ≡ inputs.Message message
  pub named : number_named s.division message.path ≡ Some u
  pub body : message.body ≡ Promise c report

-- A claim that waits for a build began to wait because of a promise of it, or waited before. So
-- only a promise makes a member give a job for the first time.
abbrev pub ClaimsWaitOncePromised : Type 0
ClaimsWaitOncePromised =
    (s : State) (input : Input) (a : Answer) (o : OpenClaim) (c : Claim)
    → IsMember s → Answers s input (Ok a) → a.claim ≡ Some o → o.progress ≡ Building c
    → IsPromiseOf s o.unit c input ⊎ (s.claim ≡ Some o)

-- A job is given when a claim begins to wait for a build, and again when the claim is nudged. It is
-- the claim's job.
pub record IsJobGiven (s : State) (a : Answer) (job : Task) : Type 0 where
  pub claim : OpenClaim
  pub is_open : a.claim ≡ Some claim
  pub builds : claim.progress ≡ Building job.claim
  pub is : job ≡ job_of s claim.unit claim.host job.claim

-- This holds for each answer with a job.
abbrev pub JobsAreOfOpenClaims : Type 0
JobsAreOfOpenClaims =
    (s : State) (input : Input) (a : Answer) → IsMember s → Answers s input (Ok a)
    → ForSome a.job (IsJobGiven s a)

-- What is built for an open claim depends only on what is held: each signature is that of a held
-- record.
abbrev pub BuildsStandOnWhatIsHeld : Type 0
BuildsStandOnWhatIsHeld =
    (s : State) (u : ℕ) → All
    (λ d. (r : Content) × (held_record s d.path ≡ Some r) × (d ≡ signature r)) (deps_of s u)

-- A job has the signatures of everything that its build needs, if those records are held.
abbrev pub JobsHaveAllTheyNeed : Type 0
JobsHaveAllTheyNeed =
    (s : State) (u : ℕ)
    → All (λ p. (r : Content) × (held_record s (path_at s.division.tree p) ≡ Some r))
    (unit_at s.division u).build
    → map (λ d. d.path) (deps_of s u) ≡ set_of
    (map (path_at s.division.tree) (unit_at s.division u).build)

-- If the files are valid, what a member makes of them is a build of the unit, provided that what it
-- holds are builds.
abbrev pub BuildsAreOfTheirUnit : Type 0
BuildsAreOfTheirUnit =
    (s : State) (u host : ℕ) (c : Claim) (given : Given)
    → IsMember s → u < length s.division.units → host ≤ 65535 → IsClaim c
    → All (λ f. ForSome f.held IsBuild) s.facts
    → build_fault (build_by s u (job_of s u host c) given) ≡ None
    → IsBuild (build_by s u (job_of s u host c) given) ×
    (unit_path (build_by s u (job_of s u host c) given) ≡ name_at s u)
