-- The calls of `dpbr`, as clap matches their words.
use Rattle.std.specs.Prelude.{◌≡◌, codes, if◌then◌else◌, ℕ, List, [], ◌∷◌, Bool, Option, None, Some}
use Rattle.std.specs.Option.{option_map_or}
use Rattle.std.specs.Str.{bytes_eq}
use Rattle.std.specs.Str.Parse.{digits_value, without_leading_plus}
use Rattle.clap.specs.Kinds.{or_else}
use Rattle.clap.specs.Words.{App, Kinds, Row, Text, fault_of, one_of, subcommand_of}
use Rattle.clap.specs.declared.error.kind.ErrorKind.TheVariants.{ValueValidation}
use Rattle.dpbr_cli.specs.Explaining.{asks_release, is_fault}
use Rattle.dpbr_cli.specs.Table.{program, shapes_of}
use Rattle.dpbr_cli.specs.Values.{IsFlag, IsNumberOf, IsWord}
use Rattle.dpbr_cli.specs.declared.Call.{Call}
use Rattle.dpbr_cli.specs.declared.Call.TheVariants.{Audit, Explain, Release, Run, Status, Wayon}
use Rattle.dpbr_cli.specs.declared.call_table.TheConstants.{CALLS, HOST, NODE, NUMBER}

-- ---- what clap is given

-- the program: it requires one of the subcommands of the table
unfoldable pub dpbr_app : App
dpbr_app = program (codes "dpbr")
    (shapes_of (λ text. text.now) (λ rows. rows.now) (λ lists. lists.now) CALLS)

-- The subcommand that clap matches in the words, and its matches for that subcommand's arguments.
-- `--version` counts as a subcommand without arguments if it is the only word after the program's
-- name.
unfoldable pub matched : List Text → Option (Text × List Row)
matched words =
    if asks_release words then Some (codes "--version", []) else subcommand_of dpbr_app words

-- ---- refused words

-- the number that was matched for the argument of `explain`
abbrev pub number_at : List Row → ℕ
number_at rows =
    option_map_or (λ t. digits_value 10 (without_leading_plus t)) (one_of (codes "NUMBER") rows) 0

-- the fault of `explain`: the number is not that of a fault
abbrev pub number_fault : List Row → Kinds
number_fault rows = if is_fault (number_at rows) then [] else ValueValidation ∷ []

-- the fault of a call
abbrev pub call_fault : Option (Text × List Row) → Kinds
call_fault None = []
call_fault (Some (name, rows)) =
    if bytes_eq name (codes "explain") then number_fault rows else []

-- the kinds of the faults that clap finds in the words, one of which it reports, or else the fault
-- of the call
abbrev pub parse_faults : List Text → Kinds
parse_faults words = or_else (fault_of dpbr_app words) (call_fault (subcommand_of dpbr_app words))

-- the kinds of the faults in the words; words that ask for the release have no fault
unfoldable pub faults_of : List Text → Kinds
faults_of words = if asks_release words then [] else parse_faults words

-- the words are accepted: there is no fault in them
abbrev pub AreTaken : List Text → Type 0
AreTaken words = faults_of words ≡ []

-- ---- calls

-- these words were matched for these two arguments, and the flag was given or not
abbrev pub AreValues : List Row → Text × Text → Text → Text → Bool → Type 0
AreValues rows names first second is_single =
    IsWord rows names.0 first × IsWord rows names.1 second × IsFlag rows (codes "single") is_single

-- the values of `run`
abbrev pub AreRunValues : List Row → Text → Text → Bool → Bool → Type 0
AreRunValues rows listing trace is_single has_events =
    AreValues rows (codes "LISTING", codes "TRACE") listing trace is_single
    × IsFlag rows (codes "events") has_events

-- the values of `wayon` after its listing and its trace
abbrev pub AreWayValues : List Row → ℕ → Text → ℕ → Text → Type 0
AreWayValues rows node path host builds =
    IsNumberOf rows (codes "NODE") NODE.2 node × IsWord rows (codes "PATH") path
    × IsNumberOf rows (codes "HOST") HOST.2 host × IsWord rows (codes "BUILDS") builds

-- the value of `explain`
abbrev pub IsExplained : List Row → ℕ → Type 0
IsExplained rows number = IsNumberOf rows (codes "NUMBER") NUMBER.2 number

-- clap matched the call's subcommand, and the call has the values of its matches
abbrev pub IsCallOf : Option (Text × List Row) → Call → Type 0
IsCallOf None call = ⊥
IsCallOf (Some (name, rows)) (Status listing held is_single) = (name ≡ codes "status")
    × AreValues rows (codes "LISTING", codes "HELD") listing.now held.now is_single
IsCallOf (Some (name, rows)) (Audit listing list is_single) = (name ≡ codes "audit")
    × AreValues rows (codes "LISTING", codes "LIST") listing.now list.now is_single
IsCallOf (Some (name, rows)) (Run listing trace is_single has_events) = (name ≡ codes "run")
    × AreRunValues rows listing.now trace.now is_single has_events
IsCallOf (Some (name, rows)) (Wayon listing trace node path host files one) = (name ≡ codes "wayon")
    × AreValues rows (codes "LISTING", codes "TRACE") listing.now trace.now one
    × AreWayValues rows node path.now host files.now
IsCallOf (Some (name, rows)) (Explain number) = (name ≡ codes "explain") × IsExplained rows number
IsCallOf (Some (name, rows)) Release = name ≡ codes "--version"
