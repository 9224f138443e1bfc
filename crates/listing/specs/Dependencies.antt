-- The syntax of a dependency: `[pkgspec:]pkgpath[bounds][:target]`.
use Rattle.std.specs.Prelude.{◌+◌, ◌++◌, ℕ, Bool, ◌&&◌, ◌==◌, not, nat_le, List, [], ◌∷◌, length, take, drop, filter, find, map, count_by, codes, unwrap_or}
use Rattle.std.specs.List.{before_first, position_or_len, slice_split}
use Rattle.faults.specs.Bytes.{Text, colon, has_byte, is_empty, is_one_of, slash}
use Rattle.faults.specs.Pieces.{pieces_at}
use Rattle.listing.specs.Lines.{is_blank}

-- the words, separated by spaces and tabs
abbrev pub words_of : Text → List Text
words_of value = filter (λ w. not (is_empty w)) (slice_split is_blank value)

-- the fields of a dependency, separated by colons
abbrev pub fields_of : Text → List Text
fields_of word = pieces_at colon word

-- the number of fields before the one with the path
abbrev pub fields_before_path : List Text → ℕ
fields_before_path fields = position_or_len (has_byte slash) fields

-- Whether exactly one field has a slash, with at most one field before it and at most one after it.
abbrev pub are_shaped : List Text → Bool
are_shaped fields =
    (count_by (has_byte slash) fields == 1) && nat_le (fields_before_path fields) 1
    && nat_le (length fields) (fields_before_path fields + 2)

-- Whether the word has the syntax of a dependency.
abbrev pub is_shaped : Text → Bool
is_shaped word = are_shaped (fields_of word)

-- the field with the path; bounds may follow the path, from the first `<`, `>` or `=` on
abbrev pub path_field : Text → Text
path_field word = unwrap_or (find (has_byte slash) (fields_of word)) []

-- Whether bounds can begin with the byte.
abbrev pub is_operator_byte : ℕ → Bool
is_operator_byte b = is_one_of (codes "<>=") b

-- the text of the dependency's path, without bounds
abbrev pub dependency_path_text : Text → Text
dependency_path_text word = before_first is_operator_byte (path_field word)

-- the bounds after the path, or the empty text
abbrev pub bounds_text : Text → Text
bounds_text word = drop (position_or_len is_operator_byte (path_field word)) (path_field word)

-- the specs that the dependency's name must match: the field before the path, and the bounds after
-- the path as a spec
abbrev pub specs_of : Text → List Text
specs_of word =
    filter (λ s. not (is_empty s)) (take (fields_before_path (fields_of word)) (fields_of word))
    ++ map (λ bounds. codes "STEM-" ++ bounds)
    (filter (λ s. not (is_empty s)) (bounds_text word ∷ []))
