-- Which matches are those of a call, and what a refusal says of them.
use Rattle.std.specs.Prelude.{List, Option}
use Rattle.clap.specs.Words.{IsAmong, Row, Text}
use Rattle.clap.specs.declared.error.kind.ErrorKind.{ErrorKind}
use Rattle.dpbn_cli.specs.Calls.{call_fault}
use Rattle.dpbn_cli.specs.declared.call_table.TheConstants.{CALLS, ONE_NODE, SHARED, SITE}
use Rattle.dpbr_cli.specs.shared.Matches.{HasArguments, HasCall}

-- what the values for the subcommands whose nodes take a given number of turns require was matched
abbrev pub HasFiles : List Row → Type 0
HasFiles rows = HasArguments (λ text. text.now) rows SHARED.now

-- what the values about a site require was matched
abbrev pub HasSite : List Row → Type 0
HasSite rows = HasArguments (λ text. text.now) rows SITE.now

-- what the values for the node of one member require was matched
abbrev pub HasOneNode : List Row → Type 0
HasOneNode rows = HasArguments (λ text. text.now) rows ONE_NODE.now

-- clap matched a call's subcommand, and what its row requires
abbrev pub NamesCall : Option (Text × List Row) → Type 0
NamesCall = HasCall (λ text. text.now) (λ rows. rows.now) (λ lists. lists.now) CALLS

-- matches that are those of a call are refused for a fault of this kind
abbrev pub RefusesBy : Option (Text × List Row) → ErrorKind → Type 0
RefusesBy matched kind = NamesCall matched → IsAmong kind (call_fault matched)
