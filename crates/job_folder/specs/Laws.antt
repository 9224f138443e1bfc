-- What holds of tasks, of jobs, and of their texts.
use Rattle.std.specs.Prelude.{◌≡◌, ◌≢◌, ◌≤◌, ◌⊎◌, ◌++◌, All}
use Rattle.faults.specs.Bytes.{Text}
use Rattle.hex.specs.Hex.{IsBytes}
use Rattle.sha2.specs.Sha256.{sha256}
use Rattle.pkgpath.specs.PkgPath.{IsPath}
use Rattle.claims.specs.Claim.{IsClaim}
use Rattle.claims.specs.Job as jobs
use Rattle.package_record.specs.Content.{IsDep, greatest_host}
use Rattle.job_folder.specs.Tasks.{Task, job_text, name_of, task_of, task_text}

-- the paths are package paths, and the signatures that the packages are built on are valid
pub record IsTask (t : Task) : Type 0 where
  pub unit : IsPath t.unit
  pub packages : All IsPath t.packages
  pub built : All IsDep t.built

-- the same for a job, with a valid host and claim
pub record IsJob (job : jobs.Task) : Type 0 where
  pub task : IsTask (task_of job)
  pub host : job.host ≤ greatest_host
  pub claim : IsClaim job.claim

-- The text of a task determines the digest of its tree.
abbrev pub TextTellsTheTree : Type 0
TextTellsTheTree =
    (tree other : Text) (t u : Task) → IsBytes tree → IsBytes other
    → task_text tree t ≡ task_text other u → tree ≡ other

-- The text of a task determines the digest of its tree and the task.
abbrev pub TextTellsTheTask : Type 0
TextTellsTheTask =
    (tree other : Text) (t u : Task) → IsBytes tree → IsBytes other → IsTask t → IsTask u
    → task_text tree t ≡ task_text other u → (tree ≡ other) × (t ≡ u)

-- The text of a job determines the digest of its tree and the job.
abbrev pub TextTellsTheJob : Type 0
TextTellsTheJob =
    (tree other : Text) (j k : jobs.Task) → IsBytes tree → IsBytes other → IsJob j → IsJob k
    → job_text tree j ≡ job_text other k → (tree ≡ other) × (j ≡ k)

-- two different texts with the same SHA-256
pub record Collide (x y : Text) : Type 0 where
  pub differ : x ≢ y
  pub same : sha256 x ≡ sha256 y

-- The name of a task determines the digest of its tree and the task, unless the two texts are a
-- collision of SHA-256.
abbrev pub NameTellsTheTask : Type 0
NameTellsTheTask =
    (tree other : Text) (t u : Task) → IsBytes tree → IsBytes other → IsTask t → IsTask u
    → name_of tree t ≡ name_of other u
    → ((tree ≡ other) × (t ≡ u)) ⊎ Collide (task_text tree t) (task_text other u)

-- A job's text begins with that of its task.
abbrev pub TaskTextIsFirst : Type 0
TaskTextIsFirst =
    (tree : Text) (job : jobs.Task)
    → (rest : Text) × (job_text tree job ≡ task_text tree (task_of job) ++ rest)
