-- How contracts see the fields of a job, and what they don't see.
use Rattle.claims.specs.Deps.{AreAscending, AreInOrder}
use Rattle.claims.specs.Job.{Task}
use Rattle.claims.specs.declared.job.Job.TheInside.{Inside}

-- the task with these fields
abbrev pub task_of : Inside → Task
task_of job = record {
  path = job.path;
  packages = job.packages.items;
  claim = job.claim;
  host = job.host;
  deps = job.deps;
}

-- Packages and dependencies are in ascending order of path, without repetition.
pub record IsInOrder (job : Inside) : Type 0 where
  pub packages : AreAscending job.packages.items
  pub deps : AreInOrder job.deps
