-- Tasks: what is to be built on what, as a text, and the name of that.
use Rattle.std.specs.Prelude.{◌++◌, ℕ, List, ◌∷◌, [], codes, decimal, map}
use Rattle.faults.specs.Bytes.{Text}
use Rattle.hex.specs.Hex.{encode_lower}
use Rattle.sha2.specs.Sha256.{sha256}
use Rattle.claims.specs.Job as jobs
use Rattle.claims.specs.declared.deps.Dep.{Dep}
use Rattle.package_record.specs.Content.{built_line, claim_line, ended}

-- the name of a unit, the paths of its packages, and the signatures that they are to be built on
pub record Task : Type 0 where
  pub unit : Text
  pub packages : List Text
  pub built : List Dep

-- the task of a job, without its host and claim
abbrev pub task_of : jobs.Task → Task
task_of job = record { unit = job.path; packages = job.packages; built = job.deps }

-- the line of a package to build
abbrev pub package_line : Text → Text
package_line path = codes "@package " ++ path

-- the line of the host that a job is given to
abbrev pub host_line : ℕ → Text
host_line host = codes "@host " ++ decimal host

-- the line of the digest of the unit's tree
abbrev pub tree_line : Text → Text
tree_line tree = codes "@tree " ++ encode_lower tree

-- a line for the tree's digest, one for the unit, one for each package, and one for each signature
abbrev pub task_lines : Text → Task → List Text
task_lines tree t =
    tree_line tree
    ∷ (codes "@unit " ++ t.unit) ∷ map package_line t.packages ++ map built_line t.built

-- the text of a task in a tree of this digest
abbrev pub task_text : Text → Task → Text
task_text tree t = ended (task_lines tree t)

-- the text of a job: the lines of its task, followed by its host and its claim
abbrev pub job_text : Text → jobs.Task → Text
job_text tree job =
    ended (task_lines tree (task_of job) ++ host_line job.host ∷ claim_line job.claim ∷ [])

-- the name of a task: the SHA-256 of its text, in hexadecimal digits
abbrev pub name_of : Text → Task → Text
name_of tree t = encode_lower (sha256 (task_text tree t))
