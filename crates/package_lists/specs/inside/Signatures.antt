-- The signatures that were parsed, with their texts.
use Rattle.std.specs.Prelude.{◌≡◌, List, [], ◌∷◌, map}
use Rattle.claims.specs.declared.deps.Dep.{Dep}
use Rattle.faults.specs.Bytes.{Text, blank}
use Rattle.faults.specs.Pieces.{pieces_at}
use Rattle.package_lists.specs.List.{Spells}

-- the text has these fields, separated by single spaces
abbrev pub AreFieldsOf : Text → Text → Text → Text → Type 0
AreFieldsOf text path name digest = pieces_at blank text ≡ path ∷ name ∷ digest ∷ []

-- the text has two spaces
abbrev pub HasThreeFields : Text → Type 0
HasThreeFields text =
    (path : Text) × (name : Text) × (digest : Text) × AreFieldsOf text path name digest

-- the text is a path, a name and a digest, separated by single spaces, which spell the package
pub record IsSignature (text : Text) (d : Dep) : Type 0 where
  pub path : Text
  pub name : Text
  pub digest : Text
  pub fields : AreFieldsOf text path name digest
  pub spelled : Spells path name digest d

-- a signature's text, and the signature parsed from it
abbrev pub Entry : Type 0
Entry = Text × Dep

-- the texts of the signatures
abbrev pub texts_of_entries : List Entry → List Text
texts_of_entries entries = map (λ e. e.0) entries

-- the signature was parsed from the entry's text
abbrev pub IsReadEntry : Entry → Type 0
IsReadEntry e = IsSignature e.0 e.1
