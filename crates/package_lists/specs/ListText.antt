-- The text of a list of packages.
use Rattle.std.specs.Prelude.{◌++◌, List, [], ◌∷◌, codes}
use Rattle.std.specs.List.{flat_map}
use Rattle.hex.specs.Hex.{encode_lower}
use Rattle.sha2.specs.Sha256.{sha256}
use Rattle.claims.specs.declared.deps.Dep.{Dep}
use Rattle.faults.specs.Bytes.{Text, blank, line_feed}
use Rattle.package_record.specs.Content.{Content, record_text}

-- a space, the digest in lower-case hexadecimal digits, and a line feed
abbrev pub digest_end : Text → Text
digest_end digest = blank ∷ encode_lower digest ++ line_feed ∷ []

-- a line with the word, which includes its space, and a path, a name and a digest
abbrev pub signature_line : Text → Text → Text → Text → Text
signature_line word path name digest = word ++ path ++ blank ∷ name ++ digest_end digest

-- the line of a package that another was built on
abbrev pub built_line : Dep → Text
built_line d = signature_line (codes "built ") d.path d.name d.digest

-- the line of a package, and the lines of those that it was built on
abbrev pub record_lines : Content → Text
record_lines r =
    signature_line (codes "package ") r.path r.name (sha256 (record_text r))
    ++ flat_map built_line r.built

-- the lines of the packages, in their order
abbrev pub list_text : List Content → Text
list_text list = flat_map record_lines list
