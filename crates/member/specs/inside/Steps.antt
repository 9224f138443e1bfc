-- How contracts see a prepared step's fields, and the functions that prepare it.
use Rattle.std.specs.Prelude.{◌≡◌, ℕ, None, Result, IfOk, option_map}
use Rattle.faults.specs.Answers.{IsRightUnless, map_ok}
use Rattle.claims.specs.Member as members
use Rattle.claims.specs.Messages as messages
use Rattle.claims.specs.Quorums.{nobody}
use Rattle.claims.specs.Step.{Outcome, notes_and_says}
use Rattle.claims.specs.declared.claim.Claim.{Claim}
use Rattle.protocol.specs.State.{State, Value}
use Rattle.protocol.specs.Answers.{Answer}
use Rattle.protocol.specs.Step.{HasAnswered}
use Rattle.protocol.specs.declared.input.Input.{Input}
use Rattle.protocol.specs.declared.refusal.Refusal.{Refusal}
use Rattle.protocol.specs.declared.refusal.Refusal.TheVariants.{Memory}
use Rattle.member.specs.Prepared.{IsChangeWeighedBy, Prepared, answer_by}
use Rattle.member.specs.declared.step.MemberStep.TheInside.{Inside}

-- the step with these fields
abbrev pub prepared_by : Inside → Prepared
prepared_by s = record {
  note = s.outcome.note;
  sends = s.outcome.sends;
  job = s.outcome.job;
  change = s.change;
}

-- the fact that is kept is the noted one, and the job that is kept is the given one
pub record IsKept (s : Inside) : Type 0 where
  pub fact : s.kept_fact ≡ option_map (λ n. n.fact) s.outcome.note
  pub job : s.kept_job ≡ s.outcome.job

-- The result is a prepared step that is this answer of the member, or this refusal, or `Memory`.
pub record Prepares (s : State) (right : Result Answer Refusal) (result : Result Prepared Refusal)
    : Type 0 where
  pub given : IsRightUnless Memory (map_ok (answer_by s) result) right
  pub weighed : IfOk result (λ step. IsChangeWeighedBy s.weights step.change s.claim)

-- As `Prepares`, where the right result is the member's answer to the input.
pub record IsPrepared (s : State) (input : Input) (result : Result Prepared Refusal) : Type 0 where
  pub answered : HasAnswered s input (map_ok (answer_by s) result)
  pub weighed : IfOk result (λ step. IsChangeWeighedBy s.weights step.change s.claim)

-- The step is this answer of the member, and its tally has the member's weights.
pub record Makes (s : State) (right : Answer) (step : Prepared) : Type 0 where
  pub is : answer_by s step ≡ right
  pub weighed : IsChangeWeighedBy s.weights step.change s.claim

-- the outcome of the abstract member when it opens a claim of this round
abbrev pub opened_in : members.Member Value → ℕ → ℕ → Outcome Value
opened_in x me round =
    let c : Claim = record { round = round; member = me } in
    notes_and_says (record x { opened = round; stage = members.Gathering c nobody None })
    (members.Opened round) (messages.Offer c)
