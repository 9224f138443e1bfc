-- What `--version` and `explain` print.
use Rattle.std.specs.Prelude.{◌++◌, ◌==◌, ℕ, codes, flat_map, if◌then◌else◌, List, [], ◌∷◌, Bool, false}
use Rattle.std.specs.Borrow.{Bor}
use Rattle.std.specs.Fmt.{decimal}
use Rattle.std.specs.List.{list_any}
use Rattle.std.specs.Str.{bytes_eq}
use Rattle.clap.specs.Words.{Text}
use Rattle.dpbr_cli.specs.declared.fault_table.TheConstants.{FAULTS}
use Rattle.dpbr_cli.specs.declared.release.TheConstants.{RELEASE}

-- whether the words are the program's name and `--version`
abbrev pub asks_release : List Text → Bool
asks_release (name ∷ word ∷ []) = bytes_eq word (codes "--version")
asks_release _ = false

-- the line with the program's name and the release
abbrev pub release_line : Text → Text
release_line program = program ++ codes " " ++ RELEASE.now ++ 10 ∷ []

-- A row of the table of faults: the number, the cause, and what to do. The two texts are of a type
-- from which a function takes them.
abbrev pub Row : Type 0 → Type 0
Row A = ℕ × A × A

-- the text that a reference points to
abbrev pub text_now : Bor Text → Text
text_now t = t.now

-- a row as text: a line with the number and the cause, and an indented one with what to do
abbrev pub row_text : {A : Type 0} → (A → Text) → Row A → Text
row_text text row = codes "fault " ++ decimal row.0 ++ codes ": " ++ text row.1
    ++ codes "." ++ 10 ∷ [] ++ codes "    " ++ text row.2 ++ 10 ∷ []

-- the row as text if it has this number, else nothing
abbrev pub row_part : {A : Type 0} → (A → Text) → Row A → ℕ → Text
row_part text row number = if row.0 == number then row_text text row else []

-- the rows with this number, as text
abbrev pub rows_text : {A : Type 0} → (A → Text) → List (Row A) → ℕ → Text
rows_text text rows number = flat_map (λ row. row_part text row number) rows

-- whether a row has this number
abbrev pub is_in_rows : {A : Type 0} → List (Row A) → ℕ → Bool
is_in_rows rows number = list_any (λ row. row.0 == number) rows

-- the rows of the table with this number, as text
unfoldable pub explanation : ℕ → Text
explanation number = rows_text (λ text. text.now) FAULTS number

-- whether the table has this number
unfoldable pub is_fault : ℕ → Bool
is_fault number = is_in_rows FAULTS number
