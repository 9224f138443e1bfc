-- The fields of a name: its text, and the lengths of its parts.
use Rattle.std.specs.Prelude.{◌≡◌, ◌+◌, ◌≤◌, Some, None, Option, List, ℕ, length, take, drop, nat_lt, if◌then◌else◌}
use Rattle.faults.specs.Bytes.{Text, dash}
use Rattle.pkgname.specs.Pieces.{pieces_behind}
use Rattle.pkgname.specs.PkgName.{IsName, Parts, parts_of}
use Rattle.pkgname.specs.Version.{IsVersion}
use Rattle.pkgname.specs.declared.name.PkgName.TheInside.{Inside}

-- the text of a name
abbrev pub text_of : Inside → List ℕ
text_of n = n.text

-- the text after the byte at the place, if there is one
abbrev pub behind_place : Text → ℕ → Option Text
behind_place text i = if nat_lt i (length text) then Some (drop (i + 1) text) else None

-- the parts of a text, given the lengths of its stem and its version
abbrev pub parts_by_lengths : Text → ℕ → ℕ → Parts
parts_by_lengths text stem_length version_length = record {
  stem = take stem_length text;
  version = take version_length (drop (stem_length + 1) text);
  flavors = pieces_behind dash (behind_place text (stem_length + 1 + version_length));
}

-- the text is a name, and its parts are those given by the lengths of its stem and its version
pub record IsSplit (n : Inside) : Type 0 where
  pub name : IsName n.text
  pub within : n.stem_length + 1 + n.version_length ≤ length n.text
  pub parts : parts_of n.text
      ≡ Some (parts_by_lengths n.text n.stem_length n.version_length)
  pub version : IsVersion (take n.version_length (drop (n.stem_length + 1) n.text))
