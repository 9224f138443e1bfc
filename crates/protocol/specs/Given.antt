-- What is handed in for a build.
use Rattle.std.specs.Prelude.{List}
use Rattle.faults.specs.Bytes.{Text}
use Rattle.package_record.specs.Content.{NamedFile}

-- the files of each package, by its path
abbrev pub Given : Type 0
Given = List (Text × List NamedFile)
