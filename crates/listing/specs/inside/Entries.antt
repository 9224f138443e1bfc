-- What contracts see of the parsed dependencies.
use Rattle.std.specs.Prelude.{◌≡◌, true, List, map, Ok}
use Rattle.faults.specs.Bytes.{Text}
use Rattle.pkgpath.specs.PkgPath.{path_of}
use Rattle.pkgspec.specs.Spec.{spec_of}
use Rattle.listing.specs.Dependencies.{dependency_path_text, is_shaped, specs_of}
use Rattle.listing.specs.declared.dependency.Dependency.{Dependency}

-- a dependency as written in the listing, with the parsed one
abbrev pub Entry : Type 0
Entry = Text × Dependency

-- the dependencies as written in the listing
abbrev pub words_of_entries : List Entry → List Text
words_of_entries entries = map (λ e. e.0) entries

-- The word has the syntax of a dependency, and these are its specs and its path.
pub record IsRead (word : Text) (d : Dependency) : Type 0 where
  pub shaped : is_shaped word ≡ true
  pub specs : map spec_of (specs_of word) ≡ map Ok d.specs.items
  pub spelled : path_of (dependency_path_text word) ≡ Ok d.path

-- The entry's dependency is its word, parsed.
abbrev pub IsReadEntry : Entry → Type 0
IsReadEntry e = IsRead e.0 e.1
