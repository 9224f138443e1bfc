use Rattle.std.proofs.Common.{◌∙◌, ◌++◌, ap}
use Rattle.faults.specs.Bytes.{Text}
use Rattle.dpbr_run.proofs.events.with_outcome.Goals as goal

pub returns : goal.returns
returns c = (
  c.in_ok-rest.rest.items,
  c.in_ok-rest.ensures,
  c.in_ok-extend_from_slice.ensures.items ∙ ap (λ (t : Text). c.args.lines.items ++ t) c.as_slice.ensures.value,
)
