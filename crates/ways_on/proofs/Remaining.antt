-- What was sent stays sent, whatever happens.
use Rattle.std.proofs.Common.{ap, sym, subst}
use Rattle.ballots.specs.declared.message.Message.{Message}
use Rattle.protocol.specs.Events.{Event}
use Rattle.protocol.specs.State.{Value}
use Rattle.world.specs.Happening.{Happens}
use Rattle.world.specs.Sent.{WasSent}
use Rattle.world.specs.World.{World}
use Rattle.world.proofs.Growth.{by_kind}
use Rattle.one_list.proofs.matching.SpokenMessages.{sent_more}

pub sent_stays : (m : Message Value) (w v : World) (e : Event) → Happens w e v → WasSent w.sent m
    → WasSent v.sent m
sent_stays m = by_kind (λ w v. WasSent w.sent m → WasSent v.sent m)
    (λ w v e s was. subst (λ l. WasSent l m) (sym (ap (λ (z : World). z.sent) s.leaves))
    (sent_more w.sent s.taken.answer.sends m was))
    (λ w v e l s was. subst (λ z. WasSent z m) (sym (ap (λ (z : World). z.sent) s.leaves)) was)
    (λ w v n s was. subst (λ z. WasSent z m) (sym (ap (λ (z : World). z.sent) s.leaves)) was)
    (λ w v n s was. subst (λ z. WasSent z m) (sym (ap (λ (z : World). z.sent) s.leaves)) was)
