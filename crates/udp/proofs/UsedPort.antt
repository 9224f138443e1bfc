-- Only what a port was used to send leaves it, and notices are read as they were sent.
use Rattle.std.proofs.Common.{◌≡◌, ◌∙◌, ◌++◌, ℕ, List, [], ◌∷◌, Option, None, Some, map, length, take, refl, sym, ap, subst, append_assoc}
use Rattle.std.specs.Prelude.{slice_index, drop}
use Rattle.std.specs.List.{AllByRecursion}
use Rattle.std.specs.List.Sorted.{IsPermutation}
use Rattle.std.proofs.Math.Seq.{take-append_seam}
use Rattle.std.proofs.lemmas.List.{append-nil, map-append}
use Rattle.std.proofs.lemmas.List.Sorted.{IsPermutation-append_left, IsPermutation-refl, IsPermutation-trans}
use Rattle.byteorder.specs.Endian.{big_bytes, big_number}
use Rattle.faults.specs.Bytes.{Text}
use Rattle.seals.specs.Sealed.{sealed}
use Rattle.udp.proofs.Notified.{IsSamePort-more, IsSamePort-same}
use Rattle.udp.proofs.NoticeTexts.{member_at, same_notice, unit_at}
use Rattle.udp.proofs.NotifyLemmas.{all_queued}
use Rattle.udp.proofs.SentAway.{leave_what_is_sent, out_same, texts_in_line}
use Rattle.udp.specs.Calls.{IsSamePort, Setup, out_of}
use Rattle.udp.specs.Inbox.{came_as}
use Rattle.udp.specs.Leaving.{texts_of}
use Rattle.udp.specs.Notices.{notice_text}
use Rattle.udp.specs.Notifying.{GoesToEach, Outgoing, outgoing}
use Rattle.udp.specs.Uses.{Called, IsMade, IsTextOf, LeavesByUse, Notified, SendsAway, Took, Use, UsesSend, WentThroughUses}
use Rattle.udp.specs.Ways.{in_line}
use Rattle.udp.specs.declared.line.Waiting.{Waiting}
use Rattle.udp.specs.declared.notice.Listing.{Listing}
use Rattle.udp.specs.declared.notice.Notice.{Notice}
use Rattle.udp.specs.declared.sockets.Seat.{Seat}
use Rattle.udp.specs.declared.sockets.Way.{Way}
use Rattle.udp.specs.declared.udp_port.UdpPort.{UdpPort}

-- ---- what is sent

-- the texts sent away are the same by the seats, key and listing before and after
used_before : {C : Type 0} (old new : UdpPort C) (uses : List Use) (texts : List Text) → IsSamePort old new
    → UsesSend new.seats.items new.outbox.key new.notices.listing uses texts → UsesSend old.seats.items old.outbox.key old.notices.listing uses texts
used_before old new uses texts same sent =
    subst (λ (listing : Option Listing). UsesSend old.seats.items old.outbox.key listing uses texts) same.listing
    (subst (λ (key : Option Text). UsesSend old.seats.items key new.notices.listing uses texts) same.sent
    (subst (λ (seats : List Seat). UsesSend seats new.outbox.key new.notices.listing uses texts) (ap (λ (s : Setup). s.seats) same.setup) sent))

-- a use that sends these texts away, and the uses after it
one_used : {C : Type 0} (old between new : UdpPort C) (one : Use) (uses : List Use) (sent : List Text) → IsSamePort old between
    → IsPermutation (out_of old ++ sent) (out_of between)
    → SendsAway old.seats.items old.outbox.key old.notices.listing one sent
    → LeavesByUse between uses new → LeavesByUse old (one ∷ uses) new
one_used old between new one uses sent same moved sends behind =
    let joined : (out_of old ++ sent) ++ behind.texts ≡ out_of old ++ (sent ++ behind.texts) = append_assoc (out_of old) sent behind.texts in
    record {
      same = IsSamePort-more old between new same behind.same;
      texts = sent ++ behind.texts;
      sent = (sent, behind.texts, sends, refl, used_before old between uses behind.texts same behind.sent);
      out = IsPermutation-trans (out_of old ++ (sent ++ behind.texts)) (out_of between ++ behind.texts) (out_of new)
          (subst (λ (l : List Text). IsPermutation l (out_of between ++ behind.texts)) joined
          (IsPermutation-append_left behind.texts (out_of old ++ sent) (out_of between) moved)) behind.out;
    }

-- equal lists are permutations of each other
same_out : {C : Type 0} (old new : UdpPort C) (sent : List Text) → out_of new ≡ out_of old ++ sent → IsPermutation (out_of old ++ sent) (out_of new)
same_out old new sent same = subst (λ (l : List Text). IsPermutation (out_of old ++ sent) l) (sym same) (IsPermutation-refl (out_of old ++ sent))

-- ---- notices

-- what holds of each entry's text holds of each text
all_texts : (P : Text → Type 0) (sent : List (Way × Text)) → AllByRecursion (λ s. P s.1) sent → AllByRecursion P (map (λ (s : Way × Text). s.1) sent)
all_texts P [] h = tt
all_texts P (s ∷ sent) h = (h.0, all_texts P sent h.1)

-- the texts of entries that were appended to the queue
appended_texts : (old new : List (Waiting Way)) (sent : List (Way × Text)) → in_line new ≡ in_line old ++ sent → texts_of new ≡ texts_of old ++ map (λ (s : Way × Text). s.1) sent
appended_texts old new sent queued =
    sym (texts_in_line new)
    ∙ (ap (map (λ (s : Way × Text). s.1)) queued
    ∙ (map-append (λ (s : Way × Text). s.1) (in_line old) sent
    ∙ ap (λ (t : List Text). t ++ map (λ (s : Way × Text). s.1) sent) (texts_in_line old)))

-- copies of the notice's text
pub record HasCopies {C : Type 0} (old : UdpPort C) (notice : Notice) (new : UdpPort C) : Type 0 where
  pub copies : List Text
  pub each : AllByRecursion (IsTextOf old.outbox.key old.notices.listing notice) copies
  pub out : out_of new ≡ out_of old ++ copies

-- the texts that are queued are handed over or queued
out_with : {C : Type 0} (old new : UdpPort C) (sent : List (Way × Text)) → new.handed.all ≡ old.handed.all
    → in_line new.leaving.waiting.items ≡ in_line old.leaving.waiting.items ++ sent → out_of new ≡ out_of old ++ map (λ (s : Way × Text). s.1) sent
out_with old new sent handed queued =
    ap (λ (t : List Text). t ++ texts_of new.leaving.waiting.items) handed
    ∙ (ap (λ (t : List Text). old.handed.all ++ t) (appended_texts old.leaving.waiting.items new.leaving.waiting.items sent queued)
    ∙ sym (append_assoc old.handed.all (texts_of old.leaving.waiting.items) (map (λ (s : Way × Text). s.1) sent)))

copies_of : {C : Type 0} (old new : UdpPort C) (notice : Notice) (listing : Option Listing) → old.notices.listing ≡ listing → new.handed.all ≡ old.handed.all
    → GoesToEach old.seats.items old.addresses.items old.outbox.key listing notice (outgoing old) (outgoing new) → HasCopies old notice new
copies_of old new notice None is handed same = record {
  copies = [];
  each = tt;
  out = out_same old new handed (ap (λ (o : Outgoing). o.waiting) same) ∙ sym (append-nil (out_of old));
}
copies_of old new notice (Some listing) is handed goes =
    let text = came_as old.outbox.key (notice_text listing.digest notice) in
    let queued = all_queued old.seats.items old.addresses.items notice.member text _ (outgoing old) (outgoing new) goes in
    record {
      copies = map (λ (s : Way × Text). s.1) queued.sent;
      each = subst (λ (l : Option Listing). AllByRecursion (IsTextOf old.outbox.key l notice) (map (λ (s : Way × Text). s.1) queued.sent)) (sym is)
          (all_texts (λ t. t ≡ text) queued.sent queued.texts);
      out = out_with old new queued.sent handed queued.queued;
    }

-- ---- uses

pub leaves_by_use : {C : Type 0} (old new : UdpPort C) (uses : List Use) → WentThroughUses old uses new → LeavesByUse old uses new
leaves_by_use old new [] same =
    subst (λ (p : UdpPort _). LeavesByUse old [] p) (sym same) (record {
      same = IsSamePort-same old;
      texts = [];
      sent = refl;
      out = subst (λ (l : List Text). IsPermutation l (out_of old)) (sym (append-nil (out_of old))) (IsPermutation-refl (out_of old));
    })
leaves_by_use old new (Called call ∷ uses) (between, does, rest) =
    let one = leave_what_is_sent old between (call ∷ []) (between, does, refl) in
    one_used old between new (Called call) uses one.texts one.same one.out one.sent (leaves_by_use between new uses rest)
leaves_by_use old new (Notified notice ∷ uses) (between, does, rest) =
    let copies = copies_of old between notice old.notices.listing refl does.only.handed does.sent in
    one_used old between new (Notified notice) uses copies.copies does.only.same
    (same_out old between copies.copies copies.out) copies.each (leaves_by_use between new uses rest)
leaves_by_use old new (Took answer ∷ uses) (between, does, rest) =
    one_used old between new (Took answer) uses [] does.only.same
    (same_out old between [] (out_same old between does.only.handed does.leaving ∙ sym (append-nil (out_of old))))
    refl (leaves_by_use between new uses rest)

-- ---- notices are read as they were sent

-- a sealed text determines its text
abbrev pub DeterminesText : Type 0
DeterminesText = (key other text another : List ℕ) → sealed key text ≡ sealed other another → text ≡ another

-- the texts are equal
same_texts : DeterminesText → (key : Option Text) (one other : Text) → came_as key one ≡ came_as key other → one ≡ other
same_texts seals None one other same = same
same_texts seals (Some key) one other same = seals key key one other same

-- equal lists begin with the same elements
same_front : (xs ys s t : List ℕ) → length xs ≡ length ys → xs ++ s ≡ ys ++ t → xs ≡ ys
same_front xs ys s t lengths same =
    sym (take-append_seam xs s) ∙ (ap (take (length xs)) same
    ∙ (ap (λ n. take n (ys ++ t)) lengths ∙ take-append_seam ys t))

pub read_as_sent : DeterminesText → (key : Option Text) (listing other : Listing) (sent read : Notice) → IsMade listing sent → IsMade other read
    → came_as key (notice_text listing.digest sent) ≡ came_as key (notice_text other.digest read) → (listing.digest ≡ other.digest) × (sent ≡ read)
read_as_sent seals key listing other sent read made made_other same =
    let texts = same_texts seals key (notice_text listing.digest sent) (notice_text other.digest read) same in
    let member : sent.member ≡ read.member =
    sym (member_at listing.digest sent made.digest) ∙ (ap (λ (t : Text). slice_index t 36) texts ∙ member_at other.digest read made_other.digest) in
    let unit : sent.unit ≡ read.unit =
    sym (unit_at listing.digest sent made.digest made.unit) ∙ (ap (λ (t : Text). big_number 4 (drop 37 t)) texts ∙ unit_at other.digest read made_other.digest made_other.unit) in
    let digests = same_front listing.digest other.digest (sent.member ∷ big_bytes 4 sent.unit) (read.member ∷ big_bytes 4 read.unit)
    (made.digest ∙ sym made_other.digest) (ap (drop 4) texts) in
    (digests, same_notice sent read member unit)
