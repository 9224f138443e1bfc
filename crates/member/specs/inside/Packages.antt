-- The packages of a build, made of the files that are given for their paths.
use Rattle.std.specs.Prelude.{ℕ, Bool, List, [], Option, is_some, unwrap_or}
use Rattle.std.specs.List.{list_all}
use Rattle.std.specs.Map.{lookup}
use Rattle.std.specs.Str.{bytes_eq}
use Rattle.faults.specs.Bytes.{Text}
use Rattle.engine.specs.Tree.{Tree, name_at, path_at, run_at}
use Rattle.package_record.specs.Content.{NamedFile}
use Rattle.package_record.specs.declared.build.Package.{Package}
use Rattle.protocol.specs.Given.{Given}
use Rattle.protocol.specs.Jobs.{in_order_of_path}

-- the files of each path that has any
abbrev pub FilesByPath : Type 0
FilesByPath = Text → Option (List NamedFile)

-- the files that are given for the path; if the path occurs more than once, the first
abbrev pub files_at : Given → FilesByPath
files_at given path = lookup (bytes_eq path) given

-- what a build says of one package
pub record Made : Type 0 where
  pub path : Text
  pub name : Text
  pub run : List Text
  pub files : List NamedFile

-- the contents of the package
abbrev pub made_of : Package → Made
made_of p = record { path = p.path; name = p.name; run = p.run.items; files = p.files }

-- what a build says of the package at the position
abbrev pub made_at : Tree → FilesByPath → ℕ → Made
made_at tree files p = record {
  path = path_at tree p;
  name = name_at tree p;
  run = in_order_of_path tree (run_at tree p);
  files = unwrap_or (files (path_at tree p)) [];
}

-- Whether there are files for all packages at these positions.
abbrev pub have_files : Tree → FilesByPath → List ℕ → Bool
have_files tree files ps = list_all (λ p. is_some (files (path_at tree p))) ps
