-- The steps of the code, by case.
use Rattle.std.specs.Prelude.{Option, None, Some, if◌then◌else◌, unwrap_or}
use Rattle.claims.specs.declared.claim.Claim.{Claim}
use Rattle.claims.specs.Quorums.{is_majority}
use Rattle.ballots.specs.Pledge.{Pledge}
use Rattle.ballots.specs.Support.{Support, of_nobody, set_of}
use Rattle.ballots.specs.declared.claimer.ClaimerChange.TheVariants as change
use Rattle.ballots.specs.declared.claimer.ClaimerStep.{ClaimerStep}
use Rattle.ballots.specs.declared.claimer.Next.TheVariants as next
use Rattle.ballots.specs.declared.message.Body.TheVariants.{Nay}
use Rattle.ballots.specs.declared.voter.VoterStep.{VoterStep}

-- the claim is rejected, because of the one that is promised
abbrev pub refusal_of : {V : Type 0} → Pledge V → Claim → VoterStep V
refusal_of v c =
    record { note = None; answer = Nay c (unwrap_or v.promised c); change = None }

-- nothing changes, and nothing follows
abbrev pub idle_step : {V : Type 0} → ClaimerStep V
idle_step = record { next = next.Nothing; change = change.Stays }

-- a member joined; this is the new tally, and the greatest report so far
abbrev pub joining_step : {V : Type 0} → Support → Option (Claim × V) → ClaimerStep V
joining_step t report = record { next = next.Nothing; change = change.Joins t report }

-- the step after a quorum promised: the reported value is proposed, or else a value is built
abbrev pub quorum_step : {V : Type 0} → Claim → Support → Option (Claim × V) → ClaimerStep V
quorum_step c t None = record { next = next.Build; change = change.Builds }
quorum_step c t (Some b) =
    record { next = next.Propose c b.1; change = change.Proposes b.1 (of_nobody t.weights) }

-- the step after a promise is counted; this is the greatest report so far
abbrev pub gathering_step : {V : Type 0} → Claim → Support → Option (Claim × V) → ClaimerStep V
gathering_step c t report =
    if is_majority t.weights (set_of t) then quorum_step c t report else joining_step t report

-- the step after a vote is counted
abbrev pub voting_step : {V : Type 0} → Support → V → ClaimerStep V
voting_step t v =
    if is_majority t.weights (set_of t)
    then record { next = next.Hold v v; change = change.Ends }
    else joining_step t None
