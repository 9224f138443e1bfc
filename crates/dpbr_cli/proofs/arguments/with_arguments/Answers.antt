use Rattle.std.proofs.Common.{◌∙◌, ap, refl, rules}
use Rattle.clap.specs.Words.{app_of, with_rule}
use Rattle.dpbr_cli.specs.Explaining.{text_now}
use Rattle.dpbr_cli.specs.Table.{rule_of_argument}
use Rattle.dpbr_cli.proofs.Table.{one_more}
use Rattle.dpbr_cli.proofs.arguments.with_arguments.Goals as goal

pub loop-row-preserved : goal.loop-row-preserved
loop-row-preserved c =
    let at = c.loop-row in
    let rule = c.argument-added.ensures.rule in
    let added = c.in_ok-command.ensures.shape c.argument-added.ensures.local in (
      one_more with_rule (rule_of_argument text_now) _ (app_of at.command) _ c.args.arguments.now at.row-index _ _
          c.loop-row-test.true refl at.invariant.0 (added ∙ ap (with_rule (app_of at.command)) rule),
      search rules,
    )
