use Rattle.std.proofs.Common.{subst}
use Rattle.dpbr_wayon.proofs.ReadAgain.{CanBeWritten, is_written}
use Rattle.dpbr_wayon.proofs.text.way_text.Goals as goal

pub returns-in_ok-text-in-Ok-clause-ok : goal.returns-in_ok-text-in-Ok-clause-ok
returns-in_ok-text-in-Ok-clause-ok c =
    is_written c.args.world c.events.ensures.history c.args.weights c.requires c.args.node c.args.path.now c.args.host c.args.packages
    c.into_events.result.items c.in-Ok.way.items c.into_events.ensures c.in-Ok.ensures.way c.in-Ok.ensures.granted
    c.in_ok-text-in-Ok.text.items c.in_ok-text-in-Ok.ensures.text c.in_ok-text-in-Ok.ensures.again
    (subst CanBeWritten c.events.ensures.events c.can_be_written.ensures)
    (subst CanBeWritten c.as_slice.ensures.value c.can_be_written-in-Ok.ensures)
