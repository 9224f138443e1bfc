use Rattle.udp.specs.Inbox.{GoesOn}
use Rattle.udp.specs.Notices.{NoticesGoOn}
use Rattle.udp.proofs.sockets.take_off.Given as goal

abbrev pub invariant-loop-seat : goal.invariant-loop-seat
invariant-loop-seat l = record {
  goes_on : GoesOn l.initial.inbox l.inbox;
  notices : NoticesGoOn l.initial.notices l.notices;
}
