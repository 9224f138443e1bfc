-- Steps that are made of a voter's or a claimer's step.
use Rattle.std.specs.Prelude.{ℕ, List, [], ◌∷◌, Option, None, Some, option_map}
use Rattle.claims.specs.Job.{Task}
use Rattle.ballots.specs.declared.claimer.ClaimerChange.{ClaimerChange}
use Rattle.ballots.specs.declared.claimer.Next.{Next}
use Rattle.ballots.specs.declared.claimer.Next.TheVariants.{Nothing, Build, Propose, Hold}
use Rattle.ballots.specs.declared.message.Body.{Body}
use Rattle.ballots.specs.declared.message.Body.TheVariants as bodies
use Rattle.ballots.specs.declared.message.Fact.{Fact}
use Rattle.ballots.specs.declared.message.Fact.TheVariants as facts
use Rattle.ballots.specs.declared.message.Note.{Note}
use Rattle.protocol.specs.Answers.{everyone, message_of, others}
use Rattle.protocol.specs.Jobs.{job_of}
use Rattle.protocol.specs.Member.{claim_in}
use Rattle.protocol.specs.Sends.{sent_to}
use Rattle.protocol.specs.State.{OpenClaim, State, Value, name_at}
use Rattle.protocol.specs.declared.sends.Send.{Send}
use Rattle.member.specs.Prepared.{Prepared}
use Rattle.member.specs.declared.step.ClaimChange.TheVariants.{Stays, Counts}

-- the note of this fact about the unit
abbrev pub on_unit : State → ℕ → Fact Value → Note Value
on_unit s u fact = record { path = name_at s u; fact = fact }

-- a voter's step: it answers the member that made the claim
abbrev pub voter_prepared : State → ℕ → ℕ → Option (Fact Value) → Body Value → Prepared
voter_prepared s u to note said = record {
  note = option_map (on_unit s u) note;
  sends = sent_to (Some (message_of s u said)) (to ∷ []);
  job = None;
  change = Stays;
}

-- the step, with this change of the claim
abbrev pub counting : Prepared → ClaimerChange Value → Prepared
counting p change = record p { change = Counts change }

-- the step after a majority of votes: notes that the build is held, and sends it to all others
abbrev pub held_prepared : State → ℕ → Value → Value → ClaimerChange Value → Prepared
held_prepared s u noted sent change = record {
  note = Some (on_unit s u (facts.Held noted));
  sends = sent_to (Some (message_of s u (bodies.Agreed sent))) (others s);
  job = None;
  change = Counts change;
}

-- a step that notes nothing
abbrev pub quiet_prepared : List Send → Option Task → ClaimerChange Value → Prepared
quiet_prepared sends job change =
    record { note = None; sends = sends; job = job; change = Counts change }

-- a claimer's step
abbrev pub counter_prepared : State → OpenClaim → Next Value → ClaimerChange Value → Prepared
counter_prepared s o Nothing change = quiet_prepared [] None change
counter_prepared s o Build change =
    quiet_prepared [] (Some (job_of s o.unit o.host (claim_in o.progress))) change
counter_prepared s o (Propose c v) change =
    quiet_prepared (sent_to (Some (message_of s o.unit (bodies.Propose c v))) (everyone s)) None
    change
counter_prepared s o (Hold noted sent) change = held_prepared s o.unit noted sent change
