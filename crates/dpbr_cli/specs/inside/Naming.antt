-- Which matches are those of a call, and what a refusal says of them.
use Rattle.std.specs.Prelude.{List, Option}
use Rattle.clap.specs.Words.{IsAmong, Row, Text}
use Rattle.clap.specs.declared.error.kind.ErrorKind.{ErrorKind}
use Rattle.dpbr_cli.specs.Calls.{call_fault}
use Rattle.dpbr_cli.specs.declared.call_table.TheConstants.{CALLS}
use Rattle.dpbr_cli.specs.shared.Matches.{HasCall}

-- clap matched a call's subcommand, and a value for each of its arguments
abbrev pub NamesCall : Option (Text × List Row) → Type 0
NamesCall = HasCall (λ text. text.now) (λ rows. rows.now) (λ lists. lists.now) CALLS

-- matches that are those of a call are refused for a fault of this kind
abbrev pub RefusesBy : Option (Text × List Row) → ErrorKind → Type 0
RefusesBy matched kind = NamesCall matched → IsAmong kind (call_fault matched)
