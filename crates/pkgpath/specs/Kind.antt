-- The kinds of parts, and what a list of parts has of each kind.
use Rattle.std.specs.Prelude.{◌≡◌, true, false, List, count_by, find}
use Rattle.std.specs.Option.{option_copied}
use Rattle.faults.specs.Bytes.{Text, is_empty}
use Rattle.pkgpath.specs.PkgPath.{is_flavor, is_part, is_subpackage}
use Rattle.pkgpath.specs.declared.parts.Kind.{Kind}
use Rattle.pkgpath.specs.declared.parts.Kind.TheVariants.{Empty, Subpackage, Flavor}
use Rattle.pkgpath.specs.declared.parts.Tally.{Tally}

-- the text is a part of this kind, and of no other
abbrev pub IsOfKind : Kind → Text → Type 0
IsOfKind Empty part =
    (is_part part ≡ true)
    × (is_empty part ≡ true) × (is_subpackage part ≡ false) × (is_flavor part ≡ false)
IsOfKind Subpackage part =
    (is_part part ≡ true)
    × (is_empty part ≡ false) × (is_subpackage part ≡ true) × (is_flavor part ≡ false)
IsOfKind Flavor part =
    (is_part part ≡ true)
    × (is_empty part ≡ false) × (is_subpackage part ≡ false) × (is_flavor part ≡ true)

-- the number of parts of each kind, and the first part of each kind
pub record IsTally (tally : Tally) (parts : List Text) : Type 0 where
  pub empties : tally.empties ≡ count_by is_empty parts
  pub subpackages : tally.subpackages ≡ count_by is_subpackage parts
  pub subpackage : option_copied tally.subpackage ≡ find is_subpackage parts
  pub flavors : tally.flavors ≡ count_by is_flavor parts
  pub flavor : option_copied tally.flavor ≡ find is_flavor parts
