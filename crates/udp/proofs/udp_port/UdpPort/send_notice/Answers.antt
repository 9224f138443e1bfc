use Rattle.std.proofs.Common.{◌≡◌, ◌∙◌, [], List, Some, Option, OnOk, length, min, refl, subst, sym}
use Rattle.std.specs.declared.net.socket_addr.SocketAddr.{SocketAddr}
use Rattle.faults.specs.Bytes.{Text}
use Rattle.udp.specs.Inbox.{came_as}
use Rattle.udp.specs.Notices.{notice_text}
use Rattle.udp.specs.Notifying.{AreNotified, Outgoing}
use Rattle.udp.specs.declared.notice.Listing.{Listing}
use Rattle.udp.specs.declared.sockets.Seat.{Seat}
use Rattle.udp.proofs.Notified.{HasNotified-same}
use Rattle.udp.proofs.NotifyLemmas.{HasQueuedNotices, made_bytes, notices_queued}
use Rattle.udp.proofs.udp_port.UdpPort.send_notice.Goals as goal

pub returns-in_default-clause-notified : goal.returns-in_default-clause-notified
returns-in_default-clause-notified g c = HasNotified-same c.args.self.now

pub returns-clause-notified : goal.returns-clause-notified
returns-clause-notified g c =
    let old = c.args.self.now in
    let key = old.outbox.key in
    let listing : Listing = c.in-Some.listing in
    let is_about : Some listing ≡ old.notices.listing = sym c.in-Some.is ∙ c.listing.ensures in
    let text = came_as key (notice_text listing.digest c.args.notice) in
    let encoded : c.as_slice.result.now ≡ notice_text listing.digest c.args.notice = c.as_slice.ensures.value ∙ c.text_of-text.ensures in
    let made = made_bytes c.make-made.result c.make-made.new.self.made c.bytes-bytes.result text
    (subst (λ (t : Text). OnOk c.make-made.result (c.make-made.new.self.made ≡ Some (came_as key t))) encoded c.make-made.ensures.made)
    c.make-made.ensures.err c.bytes-bytes.ensures in
    let before : Outgoing = record { waiting = old.leaving.waiting.items; tallies = old.tallies.members.items } in
    let after : Outgoing = record { waiting = c.notify_each.new.leaving.waiting.items; tallies = c.notify_each.new.tallies.members.items } in
    let goes : AreNotified old.seats.items old.addresses.items c.args.notice.member text (min (length old.addresses.items) 255) before after =
    subst (λ (s : List Seat). AreNotified s old.addresses.items c.args.notice.member text (min (length old.addresses.items) 255) before after) c.deref.ensures.value
    (subst (λ (a : List SocketAddr). AreNotified c.deref.result.now a c.args.notice.member text (min (length a) 255) before after) c.deref-2.ensures.value
    (c.notify_each.ensures text made)) in
    let queued : HasQueuedNotices key old.notices.listing old.leaving.waiting.items c.notify_each.new.leaving.waiting.items =
    subst (λ (l : Option Listing). HasQueuedNotices key l old.leaving.waiting.items c.notify_each.new.leaving.waiting.items) is_about
    (notices_queued old.seats.items old.addresses.items key (Some listing) c.args.notice before after goes) in
    record {
      same = record { setup = refl; heard = refl; sent = c.make-made.ensures.key; noticed = refl; listing = refl };
      inbox = refl;
      handed = refl;
      granted = refl;
      failures = refl;
      sends = refl;
      hurry = refl;
      sent = queued.sent;
      queued = queued.queued;
      notices = queued.notices;
      came = refl;
      taken = [];
      rest = refl;
    }
