-- The result of a step: its note, what it sends to whom, its job, and the claim that it leaves
-- open.
use Rattle.std.specs.Prelude.{◌==◌, ℕ, not, List, filter, Option, None, Some, length, option_map}
use Rattle.std.specs.Prelude.{if◌then◌else◌}
use Rattle.std.specs.List.{list_any, range_with_len}
use Rattle.sha2.specs.Sha256.{sha256}
use Rattle.claims.specs.Member as members
use Rattle.claims.specs.Messages as messages
use Rattle.claims.specs.Step.{Outcome}
use Rattle.claims.specs.Job.{Task}
use Rattle.engine.specs.Digest.{digest_text}
use Rattle.engine.specs.Tree.{Tree}
use Rattle.ballots.specs.InTheAgreement.{is_building}
use Rattle.ballots.specs.declared.message.Body.{Body}
use Rattle.ballots.specs.declared.message.Message.{Message}
use Rattle.ballots.specs.declared.message.Note.{Note}
use Rattle.protocol.specs.State.{OpenClaim, Progress, State, Value, facts_then, name_at}
use Rattle.protocol.specs.InTheAgreement.{body_in, fact_in, progress_of, view}
use Rattle.protocol.specs.Jobs.{job_of}
use Rattle.protocol.specs.Sends.{sent_to}
use Rattle.protocol.specs.declared.sends.Send.{Send}

-- the answer to an input
pub record Answer : Type 0 where
  pub note : Option (Note Value)
  -- in order of receiver
  pub sends : List Send
  pub job : Option Task
  pub claim : Option OpenClaim

-- ---- the receivers of a message

-- all members
abbrev pub everyone : State → List ℕ
everyone s = range_with_len 0 (length s.weights)

-- all members but this one
abbrev pub others : State → List ℕ
others s = filter (λ k. not (k == s.me)) (everyone s)

-- all members except those that joined
abbrev pub missing : State → List ℕ → List ℕ
missing s joined = filter (λ k. not (list_any (λ j. j == k) joined)) (everyone s)

-- the digest that identifies the tree
abbrev pub tree_digest : Tree → List ℕ
tree_digest tree = sha256 (digest_text tree)

-- the member's message about the unit
abbrev pub message_of : State → ℕ → Body Value → Message Value
message_of s u body =
    record { sender = s.me; tree = tree_digest s.division.tree; path = name_at s u; body = body }

-- the messages to these members, if something is said
abbrev pub sends_of : State → ℕ → List ℕ → Option (messages.Message Value) → List Send
sends_of s u to what = sent_to (option_map (λ said. message_of s u (body_in said)) what) to

-- ---- what becomes of the claim

-- the open claim, unless it is for the unit
abbrev pub dropped : Option OpenClaim → ℕ → Option OpenClaim
dropped None u = None
dropped (Some o) u = if u == o.unit then None else Some o

-- the open claim after the claim for the unit reached this progress
abbrev pub claim_then : Option OpenClaim → ℕ → ℕ → Option Progress → Option OpenClaim
claim_then old u host None = dropped old u
claim_then old u host (Some progress) = Some (record { unit = u; host = host; progress = progress })

-- a job, if the claim for the unit now begins to wait for a build
abbrev pub job_then : State → ℕ → ℕ → members.Stage Value → Option Task
job_then s u host (members.Building c) =
    if is_building (view s u).stage then None else Some (job_of s u host c)
job_then s u host members.Closed = None
job_then s u host (members.Gathering c S k) = None
job_then s u host (members.Voting b S) = None

-- ---- the whole answer

-- the note on the unit
abbrev pub note_at : State → ℕ → members.Note Value → Note Value
note_at s u note = record { path = name_at s u; fact = fact_in note }

-- The answer for the unit if the theory's member takes this step. It notes what that member notes,
-- sends what it says to these receivers, and its claim, for this host, has the same progress.
abbrev pub answered : State → ℕ → ℕ → List ℕ → Outcome Value → Answer
answered s u host to outcome = record {
  note = option_map (note_at s u) outcome.note;
  sends = sends_of s u to outcome.send;
  job = job_then s u host outcome.member.stage;
  claim = claim_then s.claim u host (progress_of (length s.weights) outcome.member.stage);
}

-- the member after a step: with at most one more note, and the claim that the step leaves open
abbrev pub after : State → Answer → State
after s a = record s { facts = facts_then s.division s.facts a.note; claim = a.claim }
