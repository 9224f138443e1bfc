-- The parts of a line and of a dependency.
use Rattle.std.specs.Prelude.{◌≡◌, ◌<◌, ◌++◌, ℕ, Bool, true, false, not, List, [], ◌∷◌, All, codes, filter, length, map, position, take, Option, None, Some, Ok}
use Rattle.std.specs.List.{slice_index_or}
use Rattle.std.specs.Str.{bytes_eq}
use Rattle.faults.specs.Bytes.{Text, is_empty}
use Rattle.pkgname.specs.PkgName.{name_of}
use Rattle.listing.specs.Dependencies.{dependency_path_text, fields_before_path, fields_of, is_shaped, path_field, specs_of, words_of}
use Rattle.listing.specs.Lines.{build_depends, full_name, ignore, is_cut, lib_depends, path_text, run_depends, value_text, variable_text}
use Rattle.listing.specs.Listing.{dependency_path}
use Rattle.listing.specs.declared.dependency.Fields.{Fields}
use Rattle.listing.specs.declared.line.Parts.{Parts}
use Rattle.listing.specs.declared.line.Variable.{Variable}
use Rattle.listing.specs.declared.line.Variable.TheVariants.{FullName, BuildDepends, LibDepends, RunDepends, Ignore}
use Rattle.listing.specs.declared.table.Reading.{Reading}
use Rattle.listing.specs.declared.table.Reading.TheVariants.{Name, Numbers, Unread}

-- the name of the variable in a listing
abbrev pub name_of_variable : Variable → Text
name_of_variable FullName = full_name
name_of_variable BuildDepends = build_depends
name_of_variable LibDepends = lib_depends
name_of_variable RunDepends = run_depends
name_of_variable Ignore = ignore

-- Whether the variable's value is a name.
abbrev pub has_name : Variable → Bool
has_name FullName = true
has_name BuildDepends = false
has_name LibDepends = false
has_name RunDepends = false
has_name Ignore = false

-- Whether the variable's value is a list of dependencies.
abbrev pub has_dependencies : Variable → Bool
has_dependencies FullName = false
has_dependencies BuildDepends = true
has_dependencies LibDepends = true
has_dependencies RunDepends = true
has_dependencies Ignore = false

-- These are the parts of the line.
pub record AreParts (line : Text) (parts : Parts) : Type 0 where
  pub cut : is_cut line ≡ true
  pub path : parts.path.now ≡ path_text line
  pub variable : parts.variable.now ≡ variable_text line
  pub value : parts.value.now ≡ value_text line

-- the non-empty texts among these
abbrev pub filled : List Text → List Text
filled texts = filter (λ s. not (is_empty s)) texts

-- The result is the field before the path, or the empty text, and the field with the path; none if
-- the word doesn't have the syntax of a dependency.
abbrev pub IsPathField : Text → Option (Text × Text) → Type 0
IsPathField word None = is_shaped word ≡ false
IsPathField word (Some (before, field)) =
    (is_shaped word ≡ true) × (field ≡ path_field word)
    × (filled (take (fields_before_path (fields_of word)) (fields_of word)) ≡ filled (before ∷ []))

-- the specs meant by the field before a path and by the bounds after it
abbrev pub specs_from : Text → Text → List Text
specs_from before bounds =
    filled (before ∷ []) ++ map (λ b. codes "STEM-" ++ b) (filled (bounds ∷ []))

-- The word has the syntax of a dependency, and these are its fields.
pub record AreFieldsOf (word : Text) (fields : Fields) : Type 0 where
  pub shaped : is_shaped word ≡ true
  pub path : fields.path.now ≡ dependency_path_text word
  pub specs : specs_of word ≡ specs_from fields.spec.now fields.bounds.now

-- The new list is the old one with words appended.
pub record Grows (old new : List Text) : Type 0 where
  pub more : List Text
  pub is : new ≡ old ++ more

-- The number is the index of the word.
abbrev pub IsNumberOf : List Text → ℕ → Text → Type 0
IsNumberOf words n word = (n < length words) × (slice_index_or words n [] ≡ word)

-- The numbers are those of these words, in the same order.
pub record AreNumbersOf (words : List Text) (numbers : List ℕ) (these : List Text) : Type 0 where
  pub within : All (λ n. n < length words) numbers
  pub are : map (λ n. slice_index_or words n []) numbers ≡ these

-- The value of the variable was parsed as this.
abbrev pub IsReadAs : List Text → Variable → Text → Reading → Type 0
IsReadAs words v text (Name name) = (has_name v ≡ true) × (name_of text ≡ Ok name)
IsReadAs words v text (Numbers numbers) =
    (has_dependencies v ≡ true) × AreNumbersOf words numbers.items (words_of text)
IsReadAs words v text Unread = v ≡ Ignore

-- the index of the word's path among the listed ones
abbrev pub position_of_word : List Text → Text → Option ℕ
position_of_word listed word = position (bytes_eq (dependency_path word)) listed
