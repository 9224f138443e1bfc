-- What a desk sees of a member's job, and what is out then.
use Rattle.std.specs.Prelude.{◌≡◌, ◌⊎◌, ℕ, List, Option, None, Some, if◌then◌else◌, nat_eq, option_and_then}
use Rattle.claims.specs.Job.{Task}
use Rattle.engine.specs.Division.{number_found}
use Rattle.program_io.specs.declared.refusal.Refusal.{Refusal}
use Rattle.protocol.specs.Answers.{tree_digest}
use Rattle.protocol.specs.Given.{Given}
use Rattle.protocol.specs.State.{State}
use Rattle.traces.specs.Builds.{builds_of}
use Rattle.job_folder.specs.Tasks.{name_of, task_of}
use Rattle.job_folder.specs.declared.answer.Answer.{Answer}
use Rattle.job_folder.specs.declared.answer.Answer.TheVariants as answers
use Rattle.protocol.specs.Step.{job_of_claim}
use Rattle.indexmap.specs.IndexSet.{contains}
use Rattle.scheduler.specs.Posted.{with_unit}
use Rattle.scheduler.specs.declared.desk.Desk.{Desk}
use Rattle.scheduler.specs.declared.reading.Look.{Look}
use Rattle.scheduler.specs.declared.reading.Look.TheVariants as looks
use Rattle.scheduler.specs.declared.posted.Posted.{Posted}

-- the unit of the job, if there is one
abbrev pub unit_of_job : State → Option Task → Option ℕ
unit_of_job s job = option_and_then (λ j. number_found s.division j.path) job

-- these, and the unit under the name of the job's task, by what is listed
abbrev pub with_job : State → List Posted → Option ℕ → Option Task → List Posted
with_job s out (Some u) (Some job) =
    with_unit out u (name_of (tree_digest s.division.tree) (task_of job))
with_job s out (Some u) None = out
with_job s out None job = out

-- the unit, if there is one and it wasn't returned
abbrev pub unless_returned : Desk → Option ℕ → Option ℕ
unless_returned d None = None
unless_returned d (Some u) = if contains nat_eq d.returned u then None else Some u

-- what is out then: what was, and the unit of the member's job, if it has one that wasn't returned
abbrev pub out_with_job : State → Desk → List Posted
out_with_job s d =
    with_job s d.out.items (unless_returned d (unit_of_job s (job_of_claim s))) (job_of_claim s)

-- a refusal with this number, at this place
abbrev pub refused : ℕ → Option ℕ → Refusal
refused number place = record { number = number; place = place }

-- The text names the builds that were made; or it names none.
abbrev pub IsRead : List ℕ → Look → Type 0
IsRead text look =
    ((builds : Given) × (builds_of text ≡ Some builds) × (look ≡ looks.Made builds))
    ⊎ ((builds_of text ≡ None) × (look ≡ looks.Bad (refused 1305 (Some 0))))

-- What is seen of an answer: a text is read, and one that is too long is bad.
abbrev pub IsSeenOf : Answer → Look → Type 0
IsSeenOf answers.NotYet look = look ≡ looks.NotYet
IsSeenOf answers.Failed look = look ≡ looks.Failed
IsSeenOf answers.TooLong look = look ≡ looks.Bad (refused 907 None)
IsSeenOf (answers.Made text) look = IsRead text.items look

-- It is what is seen of some answer.
abbrev pub IsLook : Look → Type 0
IsLook look = (answer : Answer) × IsSeenOf answer look
