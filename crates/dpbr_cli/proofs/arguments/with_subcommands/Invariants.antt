use Rattle.std.proofs.Common.{◌≡◌, fold, take}
use Rattle.clap.specs.Words.{app_of, with_subcommand}
use Rattle.dpbr_cli.specs.Explaining.{text_now}
use Rattle.dpbr_cli.specs.Table.{lists_now, rows_now, shapes_of}
use Rattle.dpbr_cli.proofs.arguments.with_subcommands.Given as goal

abbrev pub invariant-loop-row : goal.invariant-loop-row
invariant-loop-row l =
    app_of l.command ≡ fold with_subcommand (app_of l.initial.command) (shapes_of text_now rows_now lists_now (take l.row-index l.subcommands))
