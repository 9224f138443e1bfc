use Rattle.udp.specs.Coming.{HasCome}
use Rattle.udp.specs.Inbox.{GoesOn}
use Rattle.udp.specs.Notices.{NoticesGoOn}
use Rattle.udp.proofs.sockets.take_all.Given as goal

abbrev pub invariant-loop : goal.invariant-loop
invariant-loop l = record {
  come : HasCome l.seat.node l.initial.inbox l.inbox;
  goes_on : GoesOn l.initial.inbox l.inbox;
  notices : NoticesGoOn l.initial.notices l.notices;
}
