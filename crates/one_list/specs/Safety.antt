-- Why there is one list: what holds of proposals, promises, votes and pieces, unit by unit, in each
-- reachable world.
use Rattle.engine.specs.Division.{Division}
use Rattle.std.specs.Prelude.{◌≡◌, ◌++◌, ◌<◌, ℕ, true, List, ◌∷◌, Option, Some, None, All, Contains, length, slice_get}
use Rattle.faults.specs.Bytes.{Text}
use Rattle.claims.specs.Claims.{AtMost, Below}
use Rattle.claims.specs.declared.claim.Claim.{Claim}
use Rattle.claims.specs.Quorums.{Members, is_majority}
use Rattle.claims.specs.Job.{Task}
use Rattle.ballots.specs.declared.message.Body.TheVariants.{Vote}
use Rattle.ballots.specs.declared.message.Fact.TheVariants as fact
use Rattle.ballots.specs.declared.message.Message.{Message}
use Rattle.package_record.specs.Content.{Content}
use Rattle.protocol.specs.State.{Value}
use Rattle.node.specs.Step.{Taken}
use Rattle.protocol.specs.Events.{Event, Deliver}
use Rattle.wire.specs.Pieces.{split_of}
use Rattle.wire.specs.Spelling.{datagram_text}
use Rattle.wire.specs.declared.datagram.Datagram.TheVariants as datagram
use Rattle.wire.specs.declared.datagram.Piece.{Piece}
use Rattle.world.specs.Happening.{Acts, Happens, Leads}
use Rattle.world.specs.Headline.{HasSignature}
use Rattle.world.specs.Sent.{WasPromised, WasProposed, WasSent, message}
use Rattle.world.specs.World.{World, WorldNode, start}

-- A claim has at most one proposal.
abbrev pub OneProposal : World → Type 0
OneProposal w =
    (name : Text) (c : Claim) (a b : Value) → WasProposed w w.sent name c a
    → WasProposed w w.sent name c b → a ≡ b

-- The node noted a vote for the unit with this name, under the claim.
abbrev pub NotedVote : WorldNode → Text → Claim → Type 0
NotedVote x name c = (build : Value)
    × Contains x.notes (record { path = name; fact = fact.Voted c build })

-- The report is a vote that the node noted, at or above the claim.
abbrev pub ReportsAtLeast : WorldNode → Text → Option (Claim × Value) → Claim → Type 0
ReportsAtLeast x name None c = ⊥
ReportsAtLeast x name (Some b) c = AtMost c b.0
    × Contains x.notes (record { path = name; fact = fact.Voted b.0 b.1 })

-- A promise that was sent bounds every vote below it that its member ever noted: it reports that
-- vote or a later one.
abbrev pub PromisesBound : World → Type 0
PromisesBound w =
    (k : ℕ) (x : WorldNode) (name : Text) (c d : Claim) (report : Option (Claim × Value))
    → slice_get w.nodes k ≡ Some x
    → WasPromised w w.sent name k c report → NotedVote x name d → Below d c
    → ReportsAtLeast x name report d

-- Node k noted a vote for the unit with this name, under the claim.
abbrev pub HasNotedVote : World → ℕ → Text → Claim → Type 0
HasNotedVote w k name c = (x : WorldNode) × (slice_get w.nodes k ≡ Some x) × NotedVote x name c

-- A vote that was sent was noted by the node that sent it.
abbrev pub SentVotesAreNoted : World → Type 0
SentVotesAreNoted w =
    (k : ℕ) (name : Text) (c : Claim) → WasSent w.sent (message w name k (Vote c))
    → HasNotedVote w k name c

-- If a majority noted votes under the claim of a proposal, sent or not, each proposal at or above
-- that claim repeats its build.
abbrev pub LaterRepeats : World → Type 0
LaterRepeats w =
    (name : Text) (c d : Claim) (a b : Value) (S : Members) → is_majority w.weights S ≡ true
    → ((k : ℕ) → k < length w.weights → S k ≡ true → HasNotedVote w k name c)
    → WasProposed w w.sent name c a → WasProposed w w.sent name d b → AtMost c d → b ≡ a

-- The event is a delivery, and its step gave this job. Each dependency of the job was in the list
-- with exactly that signature.
pub record GivesJob (w : World) (e : Event) (job : Task) : Type 0 where
  pub node : WorldNode
  pub taken : Taken
  pub acts : Acts w e node taken
  pub datagram : ℕ
  pub receiver : ℕ
  pub delivers : e ≡ Deliver datagram receiver
  pub given : taken.answer.job ≡ Some job
  pub stood : All (HasSignature w.agreed) job.deps

-- One of the events on the way from the start to here gave the job.
pub record JobGiven (division : Division) (weights : List ℕ) (events : List Event) (job : Task) :
    Type 0 where
  pub before : List Event
  pub event : Event
  pub behind : List Event
  pub among : events ≡ before ++ event ∷ behind
  -- the worlds before and after the event
  pub world : World
  pub led : Leads (start division weights) before world
  pub then : World
  pub happened : Happens world event then
  pub gives : GivesJob world event job

-- The record is the job's: same claim, host and dependencies.
abbrev pub IsOfJob : Task → Content → Type 0
IsOfJob job r = (r.claim ≡ job.claim) × (r.host ≡ job.host) × (r.built ≡ job.deps)

-- A job for the unit with this name was given, and each record of the build is that job's.
pub record JobWasGiven (division : Division) (weights : List ℕ) (events : List Event) (name : Text)
    (build : Value) : Type 0 where
  pub job : Task
  pub was_given : JobGiven division weights events job
  pub for_unit : job.path ≡ name
  pub of_job : All (IsOfJob job) build

-- The dependencies of every build that was ever proposed were in the list when its job was given.
abbrev pub JobsStood : Division → List ℕ → List Event → World → Type 0
JobsStood division weights events w =
    (name : Text) (c : Claim) (build : Value) → WasProposed w w.sent name c build
    → JobWasGiven division weights events name build

-- All datagrams of the message were sent, and the piece is one of them.
pub record WasSentOf (sent : List Text) (m : Message Value) (p : Piece) : Type 0 where
  pub is_sent : WasSent sent m
  pub piece : Contains (split_of m) (datagram.Piece p)

-- If all datagrams of two messages were sent, and a piece of one and a piece of the other have
-- equal headers, the messages are equal.
abbrev pub EqualHeaders : World → Type 0
EqualHeaders w =
    (m n : Message Value) (p q : Piece) → WasSentOf w.sent m p → WasSentOf w.sent n q
    → p.header ≡ q.header → m ≡ n

-- Each datagram that was sent belongs to a message of which all datagrams were sent.
abbrev pub EachIsOfAMessage : World → Type 0
EachIsOfAMessage w =
    (text : Text) → Contains w.sent text
    → (m : Message Value) × WasSent w.sent m
    × ((d : _) × Contains (split_of m) d × (text ≡ datagram_text d))
