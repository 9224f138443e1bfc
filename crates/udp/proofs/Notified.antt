-- A port through which notices went.
use Rattle.std.proofs.Common.{◌++◌, ◌∙◌, List, [], Option, append_assoc, ap, refl, subst, sym}
use Rattle.std.proofs.lemmas.List.{append-nil}
use Rattle.std.specs.List.{AllByRecursion}
use Rattle.faults.specs.Bytes.{Text}
use Rattle.udp.specs.Calls.{IsSamePort}
use Rattle.udp.specs.Notifying.{HasNotified, IsOfNotice}
use Rattle.udp.specs.Ways.{in_line}
use Rattle.udp.specs.declared.notice.Listing.{Listing}
use Rattle.udp.specs.declared.notice.Notice.{Notice}
use Rattle.udp.specs.declared.sockets.Way.{Way}
use Rattle.udp.specs.declared.udp_port.UdpPort.{UdpPort}
use Rattle.udp.proofs.NotifyLemmas.{all_of_both}

-- ---- the same port

pub IsSamePort-same : {C : Type 0} (p : UdpPort C) → IsSamePort p p
IsSamePort-same p = record { setup = refl; heard = refl; sent = refl; noticed = refl; listing = refl }

pub IsSamePort-more : {C : Type 0} (a b c : UdpPort C) → IsSamePort a b → IsSamePort b c → IsSamePort a c
IsSamePort-more a b c p q = record {
  setup = q.setup ∙ p.setup;
  heard = q.heard ∙ p.heard;
  sent = q.sent ∙ p.sent;
  noticed = q.noticed ∙ p.noticed;
  listing = q.listing ∙ p.listing;
}

-- ---- notices

-- no notice was sent or taken
pub HasNotified-same : {C : Type 0} (p : UdpPort C) → HasNotified p p
HasNotified-same p = record {
  same = IsSamePort-same p;
  inbox = refl;
  handed = refl;
  granted = refl;
  failures = refl;
  sends = refl;
  hurry = refl;
  sent = [];
  queued = sym (append-nil (in_line p.leaving.waiting.items));
  notices = tt;
  came = refl;
  taken = [];
  rest = refl;
}

-- the notices of the same port are of the same listing
of_same_port : {C : Type 0} (old between : UdpPort C) → IsSamePort old between → (sent : List (Way × Text))
    → AllByRecursion (λ s. IsOfNotice between.outbox.key between.notices.listing s.1) sent
    → AllByRecursion (λ s. IsOfNotice old.outbox.key old.notices.listing s.1) sent
of_same_port old between same sent notices =
    subst (λ (key : Option Text). AllByRecursion (λ s. IsOfNotice key old.notices.listing s.1) sent) same.sent
    (subst (λ (listing : Option Listing). AllByRecursion (λ s. IsOfNotice between.outbox.key listing s.1) sent) same.listing notices)

-- more notices were sent or taken
pub HasNotified-more : {C : Type 0} (old between new : UdpPort C) → HasNotified old between → HasNotified between new → HasNotified old new
HasNotified-more old between new first second = record {
  same = IsSamePort-more old between new first.same second.same;
  inbox = second.inbox ∙ first.inbox;
  handed = second.handed ∙ first.handed;
  granted = second.granted ∙ first.granted;
  failures = second.failures ∙ first.failures;
  sends = second.sends ∙ first.sends;
  hurry = second.hurry ∙ first.hurry;
  sent = first.sent ++ second.sent;
  queued = second.queued ∙ (ap (λ (l : List (Way × Text)). l ++ second.sent) first.queued ∙ append_assoc (in_line old.leaving.waiting.items) first.sent second.sent);
  notices = all_of_both (λ (s : Way × Text). IsOfNotice old.outbox.key old.notices.listing s.1) first.sent second.sent first.notices
      (of_same_port old between first.same second.sent second.notices);
  came = second.came ∙ first.came;
  taken = first.taken ++ second.taken;
  rest = first.rest ∙ (ap (λ (l : List Notice). first.taken ++ l) second.rest ∙ sym (append_assoc first.taken second.taken new.notices.waiting));
}
