-- Lemmas about notices that are sent.
use Rattle.std.proofs.Common.{◌≡◌, ◌+◌, ◌++◌, ◌∙◌, ℕ, zero, suc, add-one, List, [], ◌∷◌, Bor, IfSome, Option, None, Some, OnErr, OnOk, Result, Err, Ok, append_assoc, ap, inl, inr, refl, subst, sym}
use Rattle.std.specs.Prelude.{option_map}
use Rattle.std.proofs.lemmas.List.{append-nil}
use Rattle.std.specs.List.{AllByRecursion}
use Rattle.std.specs.declared.net.socket_addr.SocketAddr.{SocketAddr}
use Rattle.faults.specs.Bytes.{Text}
use Rattle.udp.specs.Inbox.{came_as}
use Rattle.udp.specs.Notices.{notice_text}
use Rattle.udp.specs.Notifying.{AreNotified, GoesToEach, IsNotified, IsOfNotice, Outgoing}
use Rattle.udp.specs.Ways.{in_line}
use Rattle.udp.specs.declared.line.Waiting.{Waiting}
use Rattle.udp.specs.declared.notice.Listing.{Listing}
use Rattle.udp.specs.declared.notice.Notice.{Notice}
use Rattle.udp.specs.declared.sockets.Seat.{Seat}
use Rattle.udp.specs.declared.sockets.Way.{Way}

-- ---- what holds of each element

-- what holds of each element of two lists holds of each of both
pub all_of_both : {X : Type 0} (P : X → Type 0) (xs ys : List X) → AllByRecursion P xs → AllByRecursion P ys → AllByRecursion P (xs ++ ys)
all_of_both P [] ys first second = second
all_of_both P (x ∷ xs) ys first second = (first.0, all_of_both P xs ys first.1 second)

-- what follows from it holds, too
pub all_imply : {X : Type 0} (P Q : X → Type 0) → ((x : X) → P x → Q x) → (xs : List X) → AllByRecursion P xs → AllByRecursion Q xs
all_imply P Q follows [] h = tt
all_imply P Q follows (x ∷ xs) h = (follows x h.0, all_imply P Q follows xs h.1)

-- ---- bytes that were made

-- the bytes are those that were made, if there are any
pub made_bytes : {F : Type 0} (r : Result (Unit {0}) F) (made : Option Text) (bytes : Option (Bor Text)) (text : Text)
    → OnOk r (made ≡ Some text) → OnErr r (made ≡ None) → made ≡ option_map (λ b. b.now) bytes → IfSome bytes (λ b. b.now ≡ text)
made_bytes r made None text ok err is = tt
made_bytes (Ok u) made (Some b) text ok err is = let both : Some b.now ≡ Some text = sym is ∙ ok in cc
made_bytes (Err f) made (Some b) text ok err is = absurd (let bad : None ≡ Some b.now = sym err ∙ is in cc)

-- ---- what is queued

-- These entries were appended to the queue, and each has the text.
pub record HasQueued (text : Text) (old new : List (Waiting Way)) : Type 0 where
  pub sent : List (Way × Text)
  pub queued : in_line new ≡ in_line old ++ sent
  pub texts : AllByRecursion (λ s. s.1 ≡ text) sent

HasQueued-none : (text : Text) (old new : List (Waiting Way)) → new ≡ old → HasQueued text old new
HasQueued-none text old new same = record {
  sent = [];
  queued = ap in_line same ∙ sym (append-nil (in_line old));
  texts = tt;
}

HasQueued-one : (text : Text) (way : Way) (old new : List (Waiting Way)) → in_line new ≡ in_line old ++ (way, text) ∷ [] → HasQueued text old new
HasQueued-one text way old new queued = record { sent = (way, text) ∷ []; queued = queued; texts = (refl, tt) }

-- two appends are one
two_appends : {X : Type 0} (a b c s t : List X) → b ≡ a ++ s → c ≡ b ++ t → c ≡ a ++ (s ++ t)
two_appends a b c s t first second = second ∙ (ap (λ l. l ++ t) first ∙ append_assoc a s t)

HasQueued-more : (text : Text) (old between new : List (Waiting Way)) → HasQueued text old between → HasQueued text between new → HasQueued text old new
HasQueued-more text old between new first second = record {
  sent = first.sent ++ second.sent;
  queued = two_appends (in_line old) (in_line between) (in_line new) first.sent second.sent first.queued second.queued;
  texts = all_of_both (λ (s : Way × Text). s.1 ≡ text) first.sent second.sent first.texts second.texts;
}

module _ (seats : List Seat) (addresses : List SocketAddr) (from : ℕ) (text : Text) where
  -- one more member
  pub AreNotified-more : (n : ℕ) (old between new : Outgoing) → AreNotified seats addresses from text n old between
      → IsNotified seats addresses from n text between new → AreNotified seats addresses from text (n + 1) old new
  AreNotified-more n old between new first second =
      subst (λ (m : ℕ). AreNotified seats addresses from text m old new) (sym (add-one n)) (between, first, second)

  -- for one member the text is queued at most once
  one_queued : (to : ℕ) (old new : Outgoing) → IsNotified seats addresses from to text old new → HasQueued text old.waiting new.waiting
  one_queued to old new (inl none) = HasQueued-none text old.waiting new.waiting (ap (λ (o : Outgoing). o.waiting) none.1)
  one_queued to old new (inr (inl away)) = HasQueued-one text away.1.0 old.waiting new.waiting away.1.2
  one_queued to old new (inr (inr lost)) = HasQueued-none text old.waiting new.waiting lost.0

  -- so only the text is queued
  pub all_queued : (n : ℕ) (old new : Outgoing) → AreNotified seats addresses from text n old new → HasQueued text old.waiting new.waiting
  all_queued zero old new same = HasQueued-none text old.waiting new.waiting (ap (λ (o : Outgoing). o.waiting) same)
  all_queued (suc n) old new (between, first, second) =
      HasQueued-more text old.waiting between.waiting new.waiting (all_queued n old between first) (one_queued n between new second)

-- entries that were appended to the queue, each a notice of the listing
pub record HasQueuedNotices (key : Option Text) (listing : Option Listing) (old new : List (Waiting Way)) : Type 0 where
  pub sent : List (Way × Text)
  pub queued : in_line new ≡ in_line old ++ sent
  pub notices : AllByRecursion (λ s. IsOfNotice key listing s.1) sent

-- a notice that goes to each member queues only its text
pub notices_queued : (seats : List Seat) (addresses : List SocketAddr) (key : Option Text) (listing : Option Listing) (notice : Notice) (old new : Outgoing)
    → GoesToEach seats addresses key listing notice old new → HasQueuedNotices key listing old.waiting new.waiting
notices_queued seats addresses key None notice old new same = record {
  sent = [];
  queued = ap (λ (o : Outgoing). in_line o.waiting) same ∙ sym (append-nil (in_line old.waiting));
  notices = tt;
}
notices_queued seats addresses key (Some listing) notice old new goes =
    let text = came_as key (notice_text listing.digest notice) in
    let queued = all_queued seats addresses notice.member text _ old new goes in
    record {
      sent = queued.sent;
      queued = queued.queued;
      notices = all_imply (λ (s : Way × Text). s.1 ≡ text) (λ (s : Way × Text). IsOfNotice key (Some listing) s.1) (λ s is. (notice, is)) queued.sent queued.texts;
    }
