-- The packages of the lines that were parsed.
use Rattle.std.specs.Prelude.{◌≡◌, List, [], ◌∷◌, ◌++◌, Option, None, Some}
use Rattle.std.specs.List.{flat_map}
use Rattle.faults.specs.Bytes.{Text}
use Rattle.auditing.specs.declared.entry.Entry.{Entry}
use Rattle.package_lists.specs.List.{Says, said_of}
use Rattle.package_lists.specs.declared.list.Packages.{Packages}
use Rattle.package_lists.specs.declared.list_line.ListLine.{ListLine}
use Rattle.package_lists.specs.declared.list_line.ListLine.TheVariants.{Package, Built}

-- the last package, with what it was built on as far as parsed
abbrev pub last_entry : Packages → Entry
last_entry p =
    record { path = p.last.path; name = p.last.name; digest = p.last.digest; built = p.built.items }

-- the packages that were parsed, in their order
abbrev pub entries_in : Option Packages → List Entry
entries_in None = []
entries_in (Some p) = p.earlier.items ++ last_entry p ∷ []

-- the contents of the lines that were parsed
abbrev pub said_in : Option Packages → List ListLine
said_in packages = flat_map said_of (entries_in packages)

-- the line is about one that a package was built on
abbrev pub IsBuilt : ListLine → Type 0
IsBuilt (Package d) = ⊥
IsBuilt (Built d) = Unit {0}

-- the line is valid, and its contents were added
pub record AddsLine (before : Option Packages) (line : Text) (after : Packages) : Type 0 where
  pub said : ListLine
  pub says : Says line said
  pub added : said_in (Some after) ≡ said_in before ++ said ∷ []

-- if the line is valid, it is about a package that another was built on, and there is no package
-- before it
abbrev pub CannotFollow : Option Packages → Text → Type 0
CannotFollow before line = (said : ListLine) → Says line said → (before ≡ None) × IsBuilt said
