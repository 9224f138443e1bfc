-- What a build must be, and must depend on, to be allowed for a unit. The agreement theory takes
-- this as its test.
use Rattle.engine.specs.Division.{Division, unit_at}
use Rattle.std.specs.Prelude.{◌&&◌, ℕ, Bool, true, false, List, [], ◌∷◌, Option, None, Some, map, option_and_then}
use Rattle.std.specs.List.{list_all, list_any}
use Rattle.std.specs.Str.{bytes_eq}
use Rattle.faults.specs.Bytes.{Text}
use Rattle.faults.specs.Pieces.{set_of}
use Rattle.claims.specs.AgreedList.{Needs}
use Rattle.claims.specs.declared.deps.Dep.{Dep}
use Rattle.listing.specs.Tree.{Tree, name_at, path_at, run_at}
use Rattle.package_record.specs.Content.{Content}
use Rattle.protocol.specs.State.{Value, unit_with}
use Rattle.engine.specs.Units.{Unit}
use Rattle.protocol.specs.Jobs.{signature}

-- Whether the texts are equal and in the same order.
abbrev pub same_texts : List Text → List Text → Bool
same_texts [] [] = true
same_texts [] (t ∷ ts) = false
same_texts (s ∷ ss) [] = false
same_texts (s ∷ ss) (t ∷ ts) = bytes_eq s t && same_texts ss ts

-- Whether the record is of the unit's package at the position: by its path, its name, what it was
-- built on and what it depends on to run.
abbrev pub is_record_of : Tree → Unit → ℕ → Content → Bool
is_record_of tree x p r =
    bytes_eq r.path (path_at tree p) && bytes_eq r.name (name_at tree p)
    && same_texts (map (λ d. d.path) r.built) (set_of (map (path_at tree) x.build))
    && same_texts r.run (set_of (map (path_at tree) (run_at tree p)))

-- Whether the records are those of the unit's packages at these positions, each once and in this
-- order.
abbrev pub are_records_of : Tree → Unit → List ℕ → Value → Bool
are_records_of tree x [] [] = true
are_records_of tree x [] (r ∷ rs) = false
are_records_of tree x (p ∷ ps) [] = false
are_records_of tree x (p ∷ ps) (r ∷ rs) = is_record_of tree x p r && are_records_of tree x ps rs

-- Whether the two signatures are equal.
abbrev pub same_signature : Dep → Dep → Bool
same_signature a b = bytes_eq a.path b.path && bytes_eq a.name b.name && bytes_eq a.digest b.digest

-- Whether the build exists and one of its packages has the signature.
abbrev pub is_signed : Option Value → Dep → Bool
is_signed None d = false
is_signed (Some build) d = list_any (λ r. same_signature (signature r) d) build

-- Whether each package that the record was built on is among the given builds with exactly that
-- signature.
abbrev pub stands_on : Division → (ℕ → Option Value) → Content → Bool
stands_on division stands r =
    list_all (λ d. is_signed (option_and_then stands (unit_with division d.path)) d) r.built

-- Whether the build is allowed for the unit, given the builds held for other units: its records are
-- those of the unit's packages, and everything that they were built on is held.
abbrev pub may_build : Division → Needs Value
may_build division stands u build =
    are_records_of division.tree (unit_at division u) (unit_at division u).packages build
    && list_all (stands_on division stands) build
