-- The answer to the job of a claim that waits for a build.
use Rattle.std.specs.Prelude.{ℕ, Bool, List, Option, None, Some, is_none, map, option_and_then, if◌then◌else◌}
use Rattle.std.specs.List.{list_all}
use Rattle.claims.specs.declared.claim.Claim.{Claim}
use Rattle.faults.specs.Bytes.{Text, is_among}
use Rattle.package_record.specs.Making.{build_fault}
use Rattle.protocol.specs.Given.{Given}
use Rattle.protocol.specs.Jobs.{build_by, files_for, job_of, paths_at}
use Rattle.protocol.specs.State.{Building, Gathering, OpenClaim, Progress, State, Voting, name_at}
use Rattle.protocol.specs.declared.input.Input.{Input}
use Rattle.protocol.specs.declared.input.Input.TheVariants as inputs

-- Whether there are files for each of these paths.
abbrev pub has_files : Given → List Text → Bool
has_files builds paths = list_all (is_among (map (λ g. g.0) builds)) paths

-- these paths with their files, if there are files for each
abbrev pub given_for : Given → List Text → Option Given
given_for builds paths =
    if has_files builds paths then Some (map (λ path. (path, files_for builds path)) paths)
    else None

-- the build of the unit by the claim's job, or a failure if there are no such files or they make no
-- build
abbrev pub built_of : State → ℕ → ℕ → Claim → Option Given → Input
built_of s u host c None = inputs.Failed (name_at s u)
built_of s u host c (Some given) =
    if is_none (build_fault (build_by s u (job_of s u host c) given))
    then inputs.Built (name_at s u) given
    else inputs.Failed (name_at s u)

-- The answer to the job of a claim that waits for a build. The unit was built if there are files
-- for all its packages and these make a build. Otherwise the build failed.
abbrev pub answer_to : State → Given → OpenClaim → Progress → Option Input
answer_to s builds o (Gathering c joined k) = None
answer_to s builds o (Building c) =
    Some (built_of s o.unit o.host c (given_for builds (paths_at s o.unit)))
answer_to s builds o (Voting b joined) = None

-- the answer for the member's open claim, if it has one
abbrev pub answer_of : State → Given → Option Input
answer_of s builds = option_and_then (λ o. answer_to s builds o o.progress) s.claim

-- the answer to the member's job, if its files are made
abbrev pub answer_if : Option Given → State → Option Input
answer_if made s = option_and_then (answer_of s) made
