use Rattle.std.proofs.Common.{◌∙◌, ap}
use Rattle.dpbr_cli.specs.Explaining.{is_fault, is_in_rows}
use Rattle.dpbr_cli.proofs.explaining.is_fault.Goals as goal

pub returns : goal.returns
unfolding is_fault
returns c = c.is_in_rows.ensures ∙ ap (λ rows. is_in_rows rows c.args.number) c.as_slice.ensures
