use Rattle.std.proofs.Common.{◌≡◌, false, take}
use Rattle.clap.specs.Words.{app_of}
use Rattle.clap.specs.declared.builder.command.Command.TheViews.{out-Command as fields_of}
use Rattle.dpbr_cli.specs.Explaining.{text_now}
use Rattle.dpbr_cli.specs.Table.{rules_of, with_rules}
use Rattle.dpbr_cli.proofs.arguments.with_arguments.Given as goal

abbrev pub invariant-loop-row : goal.invariant-loop-row
invariant-loop-row l =
    (app_of l.command ≡ with_rules (app_of l.initial.command) (rules_of text_now (take l.row-index l.arguments)))
    × ((fields_of l.command).has_globals ≡ false)
