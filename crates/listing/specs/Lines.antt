-- The lines of a listing, and what they set.
use Rattle.std.specs.Prelude.{◌-◌, ℕ, Bool, ◌&&◌, ◌||◌, ◌==◌, not, List, [], ◌∷◌, length, take, drop, filter_map, codes, Option, None, Some, Result, Ok, Err, if◌then◌else◌}
use Rattle.std.specs.List.{after_first, after_last, before_first, before_last, enumerate_from, prefix_len, suffix_len}
use Rattle.faults.specs.Bytes.{Text, begins_with, blank, dot, equals_sign, has_byte, is_among, is_empty, is_one_of, line_feed, tab}
use Rattle.faults.specs.Pieces.{pieces_at}
use Rattle.pkgpath.specs.PkgPath.{path_of}

-- a line with its number, counted from 1
abbrev pub Line : Type 0
Line = ℕ × Text

-- the pieces between LFs, numbered; if the text ends with LF, the last piece is an empty line,
-- which is skipped
abbrev pub lines_of : Text → List Line
lines_of text = enumerate_from 1 (pieces_at line_feed text)

-- Whether the line is empty or begins with `===>`; such a line is skipped.
abbrev pub is_skipped : Text → Bool
is_skipped line = is_empty line || begins_with (codes "===>") line

-- the text before the first `=`, or the whole line if there is none
abbrev pub key_of : Text → Text
key_of line = before_first (λ b. b == equals_sign) line

-- Whether the line has a `=`, and a dot before it.
abbrev pub is_cut : Text → Bool
is_cut line = has_byte equals_sign line && has_byte dot (key_of line)

-- the path before the key's last dot
abbrev pub path_text : Text → Text
path_text line = before_last (λ b. b == dot) (key_of line)

-- the variable after the key's last dot
abbrev pub variable_text : Text → Text
variable_text line = after_last (λ b. b == dot) (key_of line)

-- Whether the byte is a space or a tab.
abbrev pub is_blank : ℕ → Bool
is_blank b = is_one_of (blank ∷ tab ∷ []) b

-- the text without leading and trailing spaces and tabs
abbrev pub trimmed : Text → Text
trimmed text =
    let rest = drop (prefix_len is_blank text) text in
    take (length rest - suffix_len is_blank rest) rest

-- the text after the first `=`, without leading and trailing spaces and tabs
abbrev pub value_text : Text → Text
value_text line = trimmed (after_first (λ b. b == equals_sign) line)

-- the variable with a package's name
abbrev pub full_name : Text
full_name = codes "FULLPKGNAME"

-- the variable with the build dependencies
abbrev pub build_depends : Text
build_depends = codes "BUILD_DEPENDS"

-- the variable with dependencies of both the build and the installed package
abbrev pub lib_depends : Text
lib_depends = codes "LIB_DEPENDS"

-- the variable with the run dependencies
abbrev pub run_depends : Text
run_depends = codes "RUN_DEPENDS"

-- the variable that marks a package if it isn't empty
abbrev pub ignore : Text
ignore = codes "IGNORE"

-- the variables that are read; all others are skipped
abbrev pub variables : List Text
variables = full_name ∷ build_depends ∷ lib_depends ∷ run_depends ∷ ignore ∷ []

-- Whether the line sets a variable that is read.
abbrev pub is_read : Text → Bool
is_read line = not (is_skipped line) && is_cut line && is_among variables (variable_text line)

-- a variable of a path, as set by a line
pub record Setting : Type 0 where
  pub line : ℕ
  pub path : Text
  pub variable : Text
  pub value : Text

-- the setting of the line, if its path is valid
abbrev pub setting_from : {F : Type 0} → Line → Result Text F → Option Setting
setting_from line (Ok path) = Some (record {
  line = line.0;
  path = path;
  variable = variable_text line.1;
  value = value_text line.1;
})
setting_from line (Err e) = None

-- the setting of the line, if its variable is read and its path is valid
abbrev pub setting_of : Line → Option Setting
setting_of line = if is_read line.1 then setting_from line (path_of (path_text line.1)) else None

-- the settings of all lines, in their order
abbrev pub settings_of : List Line → List Setting
settings_of lines = filter_map setting_of lines
