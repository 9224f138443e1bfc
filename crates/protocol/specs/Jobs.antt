-- What is to be built, and what was built.
use Rattle.std.specs.Prelude.{◌==◌, ◌&&◌, ℕ, Bool, List, [], filter_map, find, length, map}
use Rattle.std.specs.Prelude.{option_map, unwrap_or}
use Rattle.std.specs.List.{list_all}
use Rattle.std.specs.Str.{bytes_eq}
use Rattle.sha2.specs.Sha256.{sha256}
use Rattle.faults.specs.Bytes.{Text, is_among}
use Rattle.faults.specs.Pieces.{set_of}
use Rattle.claims.specs.declared.claim.Claim.{Claim}
use Rattle.claims.specs.Job.{Task}
use Rattle.claims.specs.declared.deps.Dep.{Dep}
use Rattle.engine.specs.Tree as trees
use Rattle.engine.specs.Tree.{Tree, path_at, run_at}
use Rattle.engine.specs.Division.{unit_at}
use Rattle.package_record.specs.Content.{Content, NamedFile, record_text}
use Rattle.protocol.specs.Given.{Given}
use Rattle.protocol.specs.State.{State, Value, held_record, name_at}

-- the signature of a package: its path, its name, and the SHA-256 of its record's text
abbrev pub signature : Content → Dep
signature r = record { path = r.path; name = r.name; digest = sha256 (record_text r) }

-- the paths of the packages at these positions, in order of path
abbrev pub in_order_of_path : Tree → List ℕ → List Text
in_order_of_path tree positions = set_of (map (path_at tree) positions)

-- the signatures of the held packages that the unit's build needs, in order of path
abbrev pub deps_of : State → ℕ → List Dep
deps_of s u =
    filter_map (λ path. option_map signature (held_record s path))
    (in_order_of_path s.division.tree (unit_at s.division u).build)

-- the paths of the unit's packages, ascending
abbrev pub paths_at : State → ℕ → List Text
paths_at s u = map (path_at s.division.tree) (unit_at s.division u).packages

-- the job for the unit: what the host is to build under the claim, and on which packages
abbrev pub job_of : State → ℕ → ℕ → Claim → Task
job_of s u host c = record {
  path = name_at s u;
  packages = paths_at s u;
  claim = c;
  host = host;
  deps = deps_of s u;
}

-- Whether files are given for exactly these paths, each once, in any order.
abbrev pub are_given : List Text → Given → Bool
are_given paths given =
    length given == length paths && list_all (is_among (map (λ g. g.0) given)) paths

-- the files that are given for the path
abbrev pub files_for : Given → Text → List NamedFile
files_for given path = unwrap_or (option_map (λ g. g.1) (find (λ g. bytes_eq g.0 path) given)) []

-- the record of the package at the position, by the job and the given files
abbrev pub record_by : Tree → Task → Given → ℕ → Content
record_by tree job given p = record {
  path = path_at tree p;
  name = trees.name_at tree p;
  host = job.host;
  claim = job.claim;
  built = job.deps;
  run = in_order_of_path tree (run_at tree p);
  files = files_for given (path_at tree p);
}

-- the build of the unit, by its job and the given files
abbrev pub build_by : State → ℕ → Task → Given → Value
build_by s u job given = map (record_by s.division.tree job given) (unit_at s.division u).packages
