use Rattle.std.proofs.Common.{◌≡◌, false, fold, map, take}
use Rattle.clap.specs.Words.{app_of}
use Rattle.clap.specs.declared.builder.command.Command.TheViews.{out-Command as fields_of}
use Rattle.dpbr_cli.specs.Explaining.{text_now}
use Rattle.dpbr_cli.specs.Table.{rows_now, rules_of_list, with_rules}
use Rattle.dpbr_cli.proofs.arguments.with_lists.Given as goal

abbrev pub invariant-loop-list : goal.invariant-loop-list
invariant-loop-list l =
    (app_of l.command ≡ fold with_rules (app_of l.initial.command) (map (rules_of_list text_now rows_now) (take l.list-index l.lists)))
    × ((fields_of l.command).has_globals ≡ false)
