use Rattle.std.proofs.Common.{refl, rules}
use Rattle.clap.specs.Words.{app_of}
use Rattle.dpbr_cli.specs.Explaining.{text_now}
use Rattle.dpbr_cli.specs.Table.{rows_now, rules_of_list, with_rules}
use Rattle.dpbr_cli.proofs.Table.{one_more}
use Rattle.dpbr_cli.proofs.arguments.with_lists.Goals as goal

pub loop-list-preserved : goal.loop-list-preserved
loop-list-preserved c =
    let at = c.loop-list in (
      one_more with_rules (rules_of_list text_now rows_now) _ (app_of at.command) _ c.args.lists.now at.list-index _ _
          c.loop-list-test.true refl at.invariant.0 c.in_ok-command.ensures.app,
      search rules,
    )
