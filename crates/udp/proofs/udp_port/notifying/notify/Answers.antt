use Rattle.std.proofs.Common.{◌≡◌, inl, inr, refl, rules, true}
use Rattle.udp.proofs.udp_port.notifying.notify.Goals as goal

pub returns-else-not-is_put : goal.returns-else-not-is_put
returns-else-not-is_put c = λ text is.
    let put : c.is_put.result ≡ true = search rules in
    inr (inl (c.has_seat.ensures.none c.if-has_seat.false, (c.in-Some.way, c.in-Some.ensures, c.is_put.ensures.put put text is), refl))
