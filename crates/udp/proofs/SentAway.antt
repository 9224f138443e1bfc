-- Only what a port was asked to send leaves it.
use Rattle.std.proofs.Common.{◌≡◌, ◌⊎◌, ⊎_elim, ◌∙◌, ◌++◌, ℕ, zero, suc, List, [], ◌∷◌, Option, None, Some, Ok, Err, inl, inr, map, refl, sym, ap, subst, append_assoc}
use Rattle.std.specs.List.Sorted.{IsPermutation}
use Rattle.std.proofs.lemmas.Bool.{cases_eq}
use Rattle.std.proofs.lemmas.List.{append-nil, map-append}
use Rattle.std.proofs.lemmas.List.Sorted.{IsPermutation-append_left, IsPermutation-append_right, IsPermutation-map, IsPermutation-refl, IsPermutation-trans}
use Rattle.std.specs.declared.net.socket_addr.SocketAddr.{SocketAddr}
use Rattle.faults.specs.Bytes.{Text}
use Rattle.datagram_ports.specs.Calls.{Call, Received, Sent, WentThrough}
use Rattle.datagram_ports.specs.Kept.{Parcel}
use Rattle.udp.proofs.Notified.{IsSamePort-more, IsSamePort-same}
use Rattle.udp.specs.Calls.{AreSentAway, DoesOverUdp, IsSamePort, LeavesWhatIsSent, Setup, out_of}
use Rattle.udp.specs.Inbox.{came_as}
use Rattle.udp.specs.Leaving.{IsLeft, texts_of}
use Rattle.udp.specs.Ways.{HasNoSeat, IsSeatOf, LeavesBy, in_line}
use Rattle.udp.specs.declared.line.Waiting.{Waiting}
use Rattle.udp.specs.declared.sockets.Seat.{Seat}
use Rattle.udp.specs.declared.sockets.Way.{Way}
use Rattle.udp.specs.declared.udp_port.UdpPort.{UdpPort}

-- ---- the same port

-- the texts sent away are the same by the seats and key before and after
sent_before : {C : Type 0} (old new : UdpPort C) (calls : List Call) (texts : List Text) → IsSamePort old new
    → AreSentAway new.seats.items new.outbox.key calls texts → AreSentAway old.seats.items old.outbox.key calls texts
sent_before old new calls texts same sent =
    subst (λ (key : Option Text). AreSentAway old.seats.items key calls texts) same.sent
    (subst (λ (seats : List Seat). AreSentAway seats new.outbox.key calls texts) (ap (λ (s : Setup). s.seats) same.setup) sent)

-- ---- seats

none_behind : (s : Seat) (seats : List Seat) (node : ℕ) → (s.node ≡ node → ⊥) → HasNoSeat seats node → HasNoSeat (s ∷ seats) node
none_behind s seats node other none zero h =
    let first : s ≡ h.0 = let e : Some s ≡ Some h.0 = h.1 in cc in
    other (ap (λ (x : Seat). x.node) first ∙ h.2)
none_behind s seats node other none (suc place) h = none place (h.0, h.1, h.2)

-- a node has a seat here or has none
seat_or_none : (seats : List Seat) (node : ℕ) → ((place : ℕ) × IsSeatOf seats node place) ⊎ HasNoSeat seats node
seat_or_none [] node = inr (λ place h. absurd (let wrong : None ≡ Some h.0 = h.1 in cc))
seat_or_none (s ∷ seats) node = ⊎_elim
    (λ same. inl (zero, (s, refl, same)))
    (λ other. ⊎_elim
    (λ there. inl (suc there.0, there.1))
    (λ none. inr (none_behind s seats node other none))
    (seat_or_none seats node))
    (cases_eq s.node node)

-- ---- texts handed over or queued

-- what was handed over is no longer queued
left_out : (waiting new : List (Waiting Way)) (handed now : List Text) → IsLeft waiting handed new now
    → IsPermutation (handed ++ texts_of waiting) (now ++ texts_of new)
left_out waiting new handed now left =
    let moved : IsPermutation (handed ++ texts_of waiting) (handed ++ texts_of (left.0 ++ new)) =
    IsPermutation-append_right handed (texts_of waiting) (texts_of (left.0 ++ new))
    (IsPermutation-map (λ (w : Waiting Way). w.bytes.items) waiting (left.0 ++ new) left.1) in
    let same : handed ++ texts_of (left.0 ++ new) ≡ now ++ texts_of new =
    ap (λ (t : List Text). handed ++ t) (map-append (λ (w : Waiting Way). w.bytes.items) left.0 new)
    ∙ (sym (append_assoc handed (texts_of left.0) (texts_of new))
    ∙ ap (λ (t : List Text). t ++ texts_of new) (sym left.2)) in
    subst (λ (l : List Text). IsPermutation (handed ++ texts_of waiting) l) same moved

pub texts_in_line : (ws : List (Waiting Way)) → map (λ (x : Way × Text). x.1) (in_line ws) ≡ texts_of ws
texts_in_line [] = refl
texts_in_line (w ∷ ws) = ap (λ (t : List Text). w.bytes.items ∷ t) (texts_in_line ws)

-- a text that leaves by a way is appended to the queue
leaves_text : (seats : List Seat) (addresses : List SocketAddr) (from to : ℕ) (text : Text) (old new : List (Waiting Way))
    → LeavesBy seats addresses from to text old new → texts_of new ≡ texts_of old ++ text ∷ []
leaves_text seats addresses from to text old new h =
    sym (texts_in_line new)
    ∙ (ap (λ (l : List (Way × Text)). map (λ (x : Way × Text). x.1) l) h.2
    ∙ (map-append (λ (x : Way × Text). x.1) (in_line old) ((h.0, text) ∷ [])
    ∙ ap (λ (t : List Text). t ++ text ∷ []) (texts_in_line old)))

-- if nothing was handed over or queued, these texts are unchanged
pub out_same : {C : Type 0} (old new : UdpPort C) → new.handed.all ≡ old.handed.all
    → new.leaving.waiting.items ≡ old.leaving.waiting.items → out_of new ≡ out_of old
out_same old new handed waiting =
    ap (λ (t : List Text). t ++ texts_of new.leaving.waiting.items) handed
    ∙ ap (λ (w : List (Waiting Way)). old.handed.all ++ texts_of w) waiting

-- otherwise there is one more text
out_more : {C : Type 0} (old new : UdpPort C) (text : Text) → new.handed.all ≡ old.handed.all
    → texts_of new.leaving.waiting.items ≡ texts_of old.leaving.waiting.items ++ text ∷ []
    → out_of new ≡ out_of old ++ text ∷ []
out_more old new text handed texts =
    ap (λ (t : List Text). t ++ texts_of new.leaving.waiting.items) handed
    ∙ (ap (λ (t : List Text). old.handed.all ++ t) texts
    ∙ sym (append_assoc old.handed.all (texts_of old.leaving.waiting.items) (text ∷ [])))

-- ---- calls

-- a call that sends nothing away, and the calls after it
nothing_more : {C : Type 0} (old between new : UdpPort C) (call : Call) (calls : List Call) → IsSamePort old between
    → IsPermutation (out_of old) (out_of between)
    → ((texts : List Text) → AreSentAway old.seats.items old.outbox.key calls texts
    → AreSentAway old.seats.items old.outbox.key (call ∷ calls) texts)
    → LeavesWhatIsSent between calls new → LeavesWhatIsSent old (call ∷ calls) new
nothing_more old between new call calls same moved sends behind = record {
  same = IsSamePort-more old between new same behind.same;
  texts = behind.texts;
  sent = sends behind.texts (sent_before old between calls behind.texts same behind.sent);
  out = IsPermutation-trans (out_of old ++ behind.texts) (out_of between ++ behind.texts) (out_of new)
      (IsPermutation-append_left behind.texts (out_of old) (out_of between) moved) behind.out;
}

-- a call that sends a text away, and the calls after it
one_more_text : {C : Type 0} (old between new : UdpPort C) (parcel : Parcel) (u : Unit {0}) (calls : List Call) → IsSamePort old between
    → HasNoSeat old.seats.items parcel.to
    → out_of between ≡ out_of old ++ came_as old.outbox.key parcel.text ∷ []
    → LeavesWhatIsSent between calls new → LeavesWhatIsSent old (Sent parcel (Ok u) ∷ calls) new
one_more_text old between new parcel u calls same none more behind =
    let text = came_as old.outbox.key parcel.text in
    let joined : out_of between ++ behind.texts ≡ out_of old ++ text ∷ behind.texts =
    ap (λ (t : List Text). t ++ behind.texts) more ∙ append_assoc (out_of old) (text ∷ []) behind.texts in
    record {
      same = IsSamePort-more old between new same behind.same;
      texts = text ∷ behind.texts;
      sent = inr (none, (behind.texts, refl, sent_before old between calls behind.texts same behind.sent));
      out = subst (λ (l : List Text). IsPermutation l (out_of new)) joined behind.out;
    }

-- if these texts are unchanged, they are a permutation of themselves
moved_none : {C : Type 0} (old new : UdpPort C) → out_of new ≡ out_of old → IsPermutation (out_of old) (out_of new)
moved_none old new same =
    subst (λ (l : List Text). IsPermutation (out_of old) l) (sym same) (IsPermutation-refl (out_of old))

pub leave_what_is_sent : {C : Type 0} (old new : UdpPort C) (calls : List Call) → WentThrough DoesOverUdp old calls new
    → LeavesWhatIsSent old calls new
leave_what_is_sent old new [] same =
    subst (λ (p : UdpPort _). LeavesWhatIsSent old [] p) (sym same) (record {
      same = IsSamePort-same old;
      texts = [];
      sent = refl;
      out = subst (λ (l : List Text). IsPermutation l (out_of old)) (sym (append-nil (out_of old))) (IsPermutation-refl (out_of old));
    })
leave_what_is_sent old new (Received answer ∷ calls) (between, does, rest) =
    nothing_more old between new (Received answer) calls does.same
    (left_out old.leaving.waiting.items between.leaving.waiting.items old.handed.all between.handed.all does.left)
    (λ texts sent. sent) (leave_what_is_sent between new calls rest)
leave_what_is_sent old new (Sent parcel (Err f) ∷ calls) (between, does, rest) =
    nothing_more old between new (Sent parcel (Err f)) calls does.same
    (moved_none old between (out_same old between does.handed does.taken))
    (λ texts sent. sent) (leave_what_is_sent between new calls rest)
leave_what_is_sent old new (Sent parcel (Ok u) ∷ calls) (between, does, rest) =
    let behind = leave_what_is_sent between new calls rest in
    ⊎_elim
    (λ there. nothing_more old between new (Sent parcel (Ok u)) calls does.same
    (moved_none old between (out_same old between does.handed (does.taken.2 there.0 there.1)))
    (λ texts sent. inl (there, sent)) behind)
    (λ none. one_more_text old between new parcel u calls does.same none
    (out_more old between (came_as old.outbox.key parcel.text) does.handed
    (leaves_text old.seats.items old.addresses.items parcel.from parcel.to (came_as old.outbox.key parcel.text)
    old.leaving.waiting.items between.leaving.waiting.items (does.taken.1 none))) behind)
    (seat_or_none old.seats.items parcel.to)
