-- All members for one path, what they noted and sent, and what may happen to them.
use Rattle.claims.specs.Quorums.{Quorums}
use Rattle.claims.specs.Votes.{Ballot, PromiseOf, VoteOf, Has, IsLawful}
use Rattle.claims.specs.Messages.{Message, Promise, Propose}
use Rattle.claims.specs.Member.{Member, Note, Voted, Closed}
use Rattle.claims.specs.Step.{Input, Outcome, answer, still}
use Rattle.std.specs.Prelude.{ℕ, Bool, true, false, not, ◌==◌, List, [], ◌∷◌, Option, Some, None}
use Rattle.std.specs.Prelude.{if◌then◌else◌, option_map}

-- all members for one path, with what they noted and sent
pub record World (V : Type 0) : Type 0 where
  pub members : ℕ → Member V
  -- each member's log: all that it noted, latest note first
  pub logs : ℕ → List (Note V)
  -- all that was ever sent, latest message first
  pub sent : List (Message V)

-- what may happen to a member
pub data Event (V : Type 0) : Type 0 where
  -- A member takes an input: its note stays, and its message is sent.
  Take : ℕ → Input V → Event V
  -- A member stops, possibly inside a step whose note did not reach its log.
  Stop : ℕ → Event V
  -- A member stops inside a step: its note stays, and nothing is sent.
  StopIn : ℕ → Input V → Event V
  Restart : ℕ → Event V

-- the member after it stopped
abbrev pub down : {V : Type 0} → Member V → Member V
down x = record x { up = false; stage = Closed }

-- the outcome of a step that was cut short by a stop
abbrev pub cut : {V : Type 0} → Outcome V → Outcome V
cut o = record { member = down o.member; note = o.note; send = None }

-- the step, if it may be taken
abbrev pub when : {X : Type 0} → Bool → Option X → Option X
when b o = if b then o else None

-- the member to which the event happens
abbrev pub member_of : {V : Type 0} → Event V → ℕ
member_of (Take i input) = i
member_of (Stop i) = i
member_of (StopIn i input) = i
member_of (Restart i) = i

-- the outcome of the event, or None if it is refused: only a member that is up takes inputs or
-- stops, and only one that is down restarts
abbrev pub outcome : {V : Type 0} → Quorums → World V → Event V → Option (Outcome V)
outcome enough w (Take i input) = when (w.members i).up (answer enough i (w.members i) w.sent input)
outcome enough w (Stop i) = when (w.members i).up (Some (still (down (w.members i))))
outcome enough w (StopIn i input) =
    when (w.members i).up (option_map cut (answer enough i (w.members i) w.sent input))
outcome enough w (Restart i) =
    when (not (w.members i).up) (Some (still (record (w.members i) { up = true; stage = Closed })))

-- f, except that i maps to x
abbrev pub put : {X : Type 0} → (ℕ → X) → ℕ → X → ℕ → X
put f i x j = if j == i then x else f j

-- the log with one more note, if there is one
abbrev pub add_note : {V : Type 0} → Option (Note V) → List (Note V) → List (Note V)
add_note None log = log
add_note (Some note) log = note ∷ log

-- the messages with one more, if there is one
abbrev pub add_sent : {V : Type 0} → Option (Message V) → List (Message V) → List (Message V)
add_sent None sent = sent
add_sent (Some message) sent = message ∷ sent

-- the world after member i's step
abbrev pub after : {V : Type 0} → World V → ℕ → Outcome V → World V
after w i o = record {
  members = put w.members i o.member;
  logs = put w.logs i (add_note o.note (w.logs i));
  sent = add_sent o.send w.sent;
}

-- A refused event changes nothing.
abbrev pub after_any : {V : Type 0} → World V → ℕ → Option (Outcome V) → World V
after_any w i None = w
after_any w i (Some o) = after w i o

-- the world after the event
abbrev pub after_event : {V : Type 0} → Quorums → World V → Event V → World V
after_event enough w e = after_any w (member_of e) (outcome enough w e)

-- a member that is up and has noted nothing
abbrev pub newcomer : {V : Type 0} → Member V
newcomer = record {
  opened = 0;
  promised = None;
  voted = None;
  held = None;
  up = true;
  stage = Closed;
}

-- the initial world: all members are up, nothing is noted, and nothing was sent
abbrev pub start : {V : Type 0} → World V
start = record { members = λ i. newcomer; logs = λ i. []; sent = [] }

-- the world after the events, one after another
abbrev pub run : {V : Type 0} → Quorums → List (Event V) → World V → World V
run enough [] w = w
run enough (e ∷ es) w = run enough es (after_event enough w e)

-- A proposal was sent.
abbrev pub WasProposed : {V : Type 0} → World V → Ballot V → Type 0
WasProposed w b = Has w.sent (Propose b)

-- A promise was sent.
abbrev pub WasPromised : {V : Type 0} → World V → PromiseOf V → Type 0
WasPromised w p = Has w.sent (Promise p)

-- A vote was noted, sent or not.
abbrev pub WasVoted : {V : Type 0} → World V → VoteOf V → Type 0
WasVoted w x = Has (w.logs x.member) (Voted x.ballot)

-- What was proposed, promised and voted in the world is lawful.
abbrev pub IsLawfulWorld : {V : Type 0} → Quorums → World V → Type 0
IsLawfulWorld {V} enough w = IsLawful V enough (WasProposed w) (WasPromised w) (WasVoted w)
