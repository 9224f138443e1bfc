-- The contents of BUILDS: paths, without repetition, with their files.
use Rattle.std.specs.Prelude.{List, [], ◌∷◌, ◌++◌, Option, None, Some, map, if◌then◌else◌}
use Rattle.faults.specs.Bytes.{Text, is_among}
use Rattle.package_record.specs.Content.{NamedFile}
use Rattle.protocol.specs.Given.{Given}
use Rattle.pkgpath.specs.PkgPath.{path_of}
use Rattle.serde_json.specs.Data.{Data, Members, no_members, member}
use Rattle.serde_json.specs.Find.{as_object}
use Rattle.traces.specs.Fields.{◌>>=◌, answer_in, files_in}
use Rattle.traces.specs.Trace.{value_of}

-- the package of a key and its value
unfoldable pub keyed : Text → Data → Option (Text × List NamedFile)
keyed key d = do
  path ← answer_in (path_of key)
  files ← files_in d
  Some (path, files)

-- these packages and one more, unless they have its path already
abbrev pub with_package : Given → Text × List NamedFile → Option Given
with_package packages p =
    if is_among (map (λ q. q.0) packages) p.0 then None
    else Some (packages ++ p ∷ [])

-- these packages and that of a key and its value
abbrev pub with_member : Given → Text → Data → Option Given
with_member packages key d = keyed key d >>= with_package packages

-- the packages of these members, appended to the given ones in their order; two keys with equal
-- paths are a fault
abbrev pub packages_behind : Given → Members → Option Given
packages_behind packages no_members = Some packages
packages_behind packages (member key d ms) =
    with_member packages key d >>= (λ more. packages_behind more ms)

-- the packages of an object's members
abbrev pub packages_of : Data → Option Given
packages_of d = as_object d >>= packages_behind []

-- the contents of a text as BUILDS, if it is valid
abbrev pub builds_of : Text → Option Given
builds_of text = value_of text >>= packages_of
