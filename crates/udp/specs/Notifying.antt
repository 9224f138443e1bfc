-- Notices that a port sends and hands over.
use Rattle.std.specs.Prelude.{◌≡◌, ◌⊎◌, ◌++◌, ℕ, zero, suc, min, List, Option, None, Some, length}
use Rattle.std.specs.List.{AllByRecursion}
use Rattle.std.specs.declared.net.socket_addr.SocketAddr.{SocketAddr}
use Rattle.faults.specs.Bytes.{Text}
use Rattle.udp.specs.Calls.{IsSamePort}
use Rattle.udp.specs.Inbox.{came_as}
use Rattle.udp.specs.Notices.{notice_text}
use Rattle.udp.specs.Tallies.{unsent_once_more, with_tally}
use Rattle.udp.specs.Ways.{HasNoSeat, HasNoWay, IsSeatOf, LeavesBy, in_line}
use Rattle.udp.specs.declared.line.Waiting.{Waiting}
use Rattle.udp.specs.declared.notice.Listing.{Listing}
use Rattle.udp.specs.declared.notice.Notice.{Notice}
use Rattle.udp.specs.declared.sockets.Seat.{Seat}
use Rattle.udp.specs.declared.sockets.Way.{Way}
use Rattle.udp.specs.declared.tallies.Tally.{Tally}
use Rattle.udp.specs.declared.udp_port.UdpPort.{UdpPort}

-- The outgoing queue, and the statistics for the members.
pub record Outgoing : Type 0 where
  pub waiting : List (Waiting Way)
  pub tallies : List Tally

-- what of the port's state notices change
abbrev pub outgoing : {C : Type 0} → UdpPort C → Outgoing
outgoing p = record { waiting = p.leaving.waiting.items; tallies = p.tallies.members.items }

-- What becomes of a text for a member:
-- - nothing, if the member's node is here, or there is no way to it from the sender's node here;
-- - it is appended to the queue with the way;
-- - or it is lost, and counts as unsent to the member.
abbrev pub IsNotified : List Seat → List SocketAddr → ℕ → ℕ → Text → Outgoing → Outgoing → Type 0
IsNotified seats addresses from to text old new =
    ((((place : ℕ) × IsSeatOf seats to place) ⊎ HasNoWay seats addresses from to) × (new ≡ old))
    ⊎ ((HasNoSeat seats to × LeavesBy seats addresses from to text old.waiting new.waiting
    × (new.tallies ≡ old.tallies))
    ⊎ ((new.waiting ≡ old.waiting)
    × (new.tallies ≡ with_tally unsent_once_more to old.tallies)))

-- that became of it for each of the first members, in order
abbrev pub AreNotified : List Seat → List SocketAddr → ℕ → Text → ℕ → Outgoing → Outgoing → Type 0
AreNotified seats addresses from text zero old new = new ≡ old
AreNotified seats addresses from text (suc members) old new = (between : Outgoing)
    × AreNotified seats addresses from text members old between
    × IsNotified seats addresses from members text between new

-- The notice goes to each of the members; without a listing it goes to none.
abbrev pub GoesToEach : List Seat → List SocketAddr → Option Text → Option Listing → Notice
    → Outgoing → Outgoing → Type 0
GoesToEach seats addresses key None notice old new = new ≡ old
GoesToEach seats addresses key (Some listing) notice old new =
    AreNotified seats addresses notice.member (came_as key (notice_text listing.digest notice))
    (min (length addresses) 255) old new

-- The port sends the notice.
abbrev pub Notifies : {C : Type 0} → UdpPort C → Notice → UdpPort C → Type 0
Notifies old notice new =
    GoesToEach old.seats.items old.addresses.items old.outbox.key old.notices.listing notice
    (outgoing old) (outgoing new)

-- the text, as it leaves under the key, of a notice about the listing, if there is one
abbrev pub IsOfNotice : Option Text → Option Listing → Text → Type 0
IsOfNotice key None text = ⊥
IsOfNotice key (Some listing) text =
    (notice : Notice) × (text ≡ came_as key (notice_text listing.digest notice))

-- Nothing happened to the port but that notices were sent and taken: it is the same port, with the
-- same received datagrams, grants, numbers and wait. What was queued still is, and texts of
-- notices come after it. No notice was read.
pub record HasNotified {C : Type 0} (old new : UdpPort C) : Type 0 where
  pub same : IsSamePort old new
  pub inbox : new.inbox ≡ old.inbox
  pub handed : new.handed.all ≡ old.handed.all
  pub granted : new.granted.all ≡ old.granted.all
  pub failures : new.failures ≡ old.failures
  pub sends : new.sends ≡ old.sends
  pub hurry : new.hurry ≡ old.hurry
  pub sent : List (Way × Text)
  pub queued : in_line new.leaving.waiting.items ≡ in_line old.leaving.waiting.items ++ sent
  pub notices : AllByRecursion (λ s. IsOfNotice old.outbox.key old.notices.listing s.1) sent
  pub came : new.notices.came ≡ old.notices.came
  pub taken : List Notice
  pub rest : old.notices.waiting ≡ taken ++ new.notices.waiting
