use Rattle.udp.proofs.NoticeLemmas.{kept}
use Rattle.udp.proofs.udp_port.UdpPort.is_taken.Goals as goal

pub returns-in_default-clause-notices : goal.returns-in_default-clause-notices
returns-in_default-clause-notices g c = kept c.args.self.now.notices

pub returns-in_err-make-clause-notices : goal.returns-in_err-make-clause-notices
returns-in_err-make-clause-notices g c = kept c.args.self.now.notices

pub returns-in-Some-seat_of-clause-away : goal.returns-in-Some-seat_of-clause-away
returns-in-Some-seat_of-clause-away g c taken none =
    let here = rw c.deref-3.ensures.value at c.in-Some-seat_of.ensures in
    absurd (none c.in-Some-seat_of.field-0 here)

pub returns-in-None-clause-here : goal.returns-in-None-clause-here
returns-in-None-clause-here g c place seat =
    let none = rw c.deref-3.ensures.value at c.in-None.ensures in
    absurd (none place seat)
