use Rattle.std.proofs.Common.{Option, subst, sym}
use Rattle.std.proofs.lemmas.Result.{IfOk-weaker}
use Rattle.simulator.specs.declared.event_effects.MessageKind.{MessageKind}
use Rattle.dpbr_run.specs.Events.{IsSentText}
use Rattle.dpbr_run.proofs.lines.sent_text.Goals as goal

pub returns-in-Some : goal.returns-in-Some
returns-in-Some c =
    IfOk-weaker c.datagrams_text.result _ _
    (λ text is. subst (λ (kind : Option MessageKind). IsSentText c.args.world.now.world.sent kind c.args.done.now.sends text.items)
    (sym c.in-Some.is) is)
    c.datagrams_text.ensures

pub returns-in-None : goal.returns-in-None
returns-in-None c =
    subst (λ (kind : Option MessageKind). IsSentText c.args.world.now.world.sent kind c.args.done.now.sends c.new.result.items)
    (sym c.in-None.is) c.new.ensures.items
