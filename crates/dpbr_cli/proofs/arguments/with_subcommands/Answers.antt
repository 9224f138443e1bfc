use Rattle.std.proofs.Common.{◌∙◌, ap, refl}
use Rattle.clap.specs.Words.{app_of, with_subcommand}
use Rattle.dpbr_cli.specs.Explaining.{text_now}
use Rattle.dpbr_cli.specs.Table.{lists_now, rows_now, shape_of_row}
use Rattle.dpbr_cli.proofs.Table.{one_more}
use Rattle.dpbr_cli.proofs.arguments.with_subcommands.Goals as goal

pub loop-row-preserved : goal.loop-row-preserved
loop-row-preserved c =
    let at = c.loop-row in
    let shape = c.in_ok-added.ensures.shape in
    let added = c.in_ok-command.ensures.shape c.in_ok-added.ensures.local in
    one_more with_subcommand (shape_of_row text_now rows_now lists_now) _ (app_of at.command) _ c.args.subcommands.now at.row-index _ _
    c.loop-row-test.true refl at.invariant (added ∙ ap (with_subcommand (app_of at.command)) shape)
