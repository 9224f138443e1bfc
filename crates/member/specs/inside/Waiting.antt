-- The claim that waits for a build.
use Rattle.std.specs.Prelude.{◌==◌, ℕ, Bool, true, false, Option, None, Some}
use Rattle.std.specs.Prelude.{if◌then◌else◌, option_and_then, option_map}
use Rattle.faults.specs.Bytes.{Text}
use Rattle.claims.specs.Job.{Task}
use Rattle.protocol.specs.State.{Gathering, Building, Voting, OpenClaim, Progress, State}
use Rattle.protocol.specs.Step.{job_again, unit_in}

-- the job of the open claim, if the claim is for the unit and waits for a build
abbrev pub job_at : State → ℕ → Option Task
job_at s u =
    option_and_then (λ o. if u == o.unit then job_again s o o.progress else None) s.claim

-- the unit that the path names and its job, if the open claim is for it and waits for a build
abbrev pub waiting_for : State → Text → Option (ℕ × Task)
waiting_for s path =
    option_and_then (λ u. option_map (λ job. (u, job)) (job_at s u)) (unit_in s path)

-- ---- whether a claim is open that waits for a build, and for which unit

-- Whether the claim waits for a build.
abbrev pub is_building_at : Progress → Bool
is_building_at (Gathering c joined k) = false
is_building_at (Building c) = true
is_building_at (Voting b joined) = false

-- Whether a claim is open that waits for a build.
abbrev pub waits : Option OpenClaim → Bool
waits None = false
waits (Some o) = is_building_at o.progress

-- Whether a claim is open for the unit.
abbrev pub is_for : Option OpenClaim → ℕ → Bool
is_for None u = false
is_for (Some o) u = u == o.unit
