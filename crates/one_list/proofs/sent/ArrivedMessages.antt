-- A complete message that arrives at a node, in one datagram or in pieces that it kept, was said.
use Rattle.std.proofs.Common.{◌≡◌, ◌==◌, ℕ, zero, suc, Bool, true, false, cond, filter, List, [], ◌∷◌, length, get_or, Option, None, Some, eqb-true, refl, sym, ap, ap₂, subst, ◌∙◌, arith, true≢false}
use Rattle.std.specs.Prelude.{All, AllPairs, Contains}
use Rattle.std.specs.Str.{bytes_eq}
use Rattle.std.proofs.lemmas.Bool.{and_parts, cond-true, false_from_ne_true}
use Rattle.std.proofs.lemmas.List.Elements.{All-contains}
use Rattle.std.proofs.lemmas.List.Folds.{Any-from_list_any}
use Rattle.std.proofs.lemmas.List.Sums.{AllPass-from_list_all}
use Rattle.faults.specs.Bytes.{Text}
use Rattle.claims.specs.AgreedList.{Act, Cluster}
use Rattle.claims.specs.Claims.{claim_same}
use Rattle.claims.proofs.Order.{claim_same_true}
use Rattle.ballots.specs.declared.message.Message.{Message}
use Rattle.package_record.specs.Build.{build_text}
use Rattle.package_record.specs.Laws.{BuildTextIsReadAgain}
use Rattle.protocol.specs.State.{Value}
use Rattle.engine.specs.Division.{Division}
use Rattle.engine.proofs.Places.{same_bytes}
use Rattle.wire.specs.Joining.{AreAllThere, StandsOnce, bytes_of, is_numbered, same_carrier, same_header}
use Rattle.wire.specs.Pieces.{IsDatagram, carried_in, header_with, numbers_of, piece_at, pieces_of, split_by, split_of}
use Rattle.wire.specs.Reading.{datagram_of, joined}
use Rattle.wire.specs.Spelling.{datagram_text}
use Rattle.wire.specs.declared.datagram.Carrier.{Carrier}
use Rattle.wire.specs.declared.datagram.Carrier.TheVariants as carriers
use Rattle.wire.specs.declared.datagram.Datagram.{Datagram}
use Rattle.wire.specs.declared.datagram.Datagram.TheVariants as datagrams
use Rattle.wire.specs.declared.datagram.Header.{Header}
use Rattle.wire.specs.declared.datagram.Piece.{Piece}
use Rattle.wire.proofs.Cutting.{pieces_join_in_any_order, split_good}
use Rattle.wire.proofs.DatagramTexts.{datagram_again}
use Rattle.world.specs.Sent.{WasSent}
use Rattle.world.specs.World.{IsMade, World}
use Rattle.one_list.specs.Matches.{Matches, WasSaid}
use Rattle.one_list.specs.Mirrored.{after_all_acts}
use Rattle.one_list.proofs.sent.MessageHeaders.{Carries, carries, ok, ok_same, said_equal, sent_was_said}
use Rattle.one_list.proofs.sent.SentMessages.{has_preimage}
use Rattle.node.specs.Kept.{are_all, has_number}

-- ---- equal headers

carriers_same : (a b : Carrier) → same_carrier a b ≡ true → a ≡ b
carriers_same (carriers.Promise c d) (carriers.Promise e f) h =
    let p = and_parts (claim_same c e) (claim_same d f) h in ap₂ carriers.Promise
    (claim_same_true c e p.0) (claim_same_true d f p.1)
carriers_same (carriers.Promise c d) (carriers.Propose e) h = absurd (true≢false (sym h))
carriers_same (carriers.Promise c d) carriers.Agreed h = absurd (true≢false (sym h))
carriers_same (carriers.Propose c) (carriers.Promise e f) h = absurd (true≢false (sym h))
carriers_same (carriers.Propose c) (carriers.Propose e) h =
    ap carriers.Propose (claim_same_true c e h)
carriers_same (carriers.Propose c) carriers.Agreed h = absurd (true≢false (sym h))
carriers_same carriers.Agreed (carriers.Promise e f) h = absurd (true≢false (sym h))
carriers_same carriers.Agreed (carriers.Propose e) h = absurd (true≢false (sym h))
carriers_same carriers.Agreed carriers.Agreed h = refl

pub headers_same : (a b : Header) → same_header a b ≡ true → a ≡ b
headers_same a b h =
    let e = and_parts _ (a.length == b.length) h in
    let d = and_parts _ (same_carrier a.carrier b.carrier) e.0 in
    let c = and_parts _ (bytes_eq a.path b.path) d.0 in
    let s = and_parts (a.sender == b.sender) (bytes_eq a.tree b.tree) c.0 in
    let sender = eqb-true a.sender b.sender s.0 in
    let tree = same_bytes a.tree b.tree s.1 in
    let path = same_bytes a.path b.path c.1 in
    let carrier = carriers_same a.carrier b.carrier d.1 in
    let size = eqb-true a.length b.length e.1 in
    λ i. record {
      sender = sender i;
      tree = tree i;
      path = path i;
      carrier = carrier i;
      length =
          size i;
    }

-- ---- the only element that passes a test

none_pass : {X : Type 0} (t : X → Bool) (xs : List X) → ((x : X) → Contains xs x → t x ≡ false)
    → filter t xs ≡ []
none_pass t [] none = refl
none_pass t (x ∷ xs) none =
    ap (λ b. cond b (x ∷ filter t xs) (filter t xs)) (none x (zero, omega arith, refl))
    ∙ none_pass t xs (λ y h. none y (suc h.0, omega (arith, h.1), h.2))

-- what passes first is the only one, if no two pass
only_passes : {X : Type 0} (t : X → Bool) (xs : List X) (x : X) → Contains xs x → t x ≡ true
    → AllPairs (λ a b. t a ≡ true → t b ≡ true → ⊥) xs → filter t xs ≡ x ∷ []
only_passes t [] x (k, within, e) on once = absurd (omega arith)
only_passes {X} t (y ∷ ys) x (zero, within, e) on once =
    cond-true (t y) (y ∷ filter t ys) (filter t ys) (ap t e ∙ on)
    ∙ ap (λ (l : List X). y ∷ l) (none_pass t ys (λ z h. false_from_ne_true (t z)
    (λ also. once 0 (suc h.0) z (omega arith) (omega (arith, h.1)) (ap t e ∙ on)
    (ap t h.2 ∙ also))))
    ∙ ap (λ (z : X). z ∷ []) e
only_passes {X} t (y ∷ ys) x (suc k, within, e) on once =
    let off : t y ≡ false = false_from_ne_true (t y)
    (λ also. once 0 (suc k) x (omega arith) within also (ap t e ∙ on)) in
    ap (λ b. cond b (y ∷ filter t ys) (filter t ys)) off
    ∙ only_passes t ys x (k, omega (arith, within), e) on
    (λ i j d lt l. once (suc i) (suc j) d (omega (arith, lt)) (omega (arith, l)))

-- ---- in a world that matches

module _ (division : Division) (weights : List ℕ) (acts : List (Act Value)) (w : World)
    (made : IsMade division weights)
    (of : (w.division ≡ division) × (w.weights ≡ weights))
    (m : Matches w (after_all_acts division weights acts)) (again : BuildTextIsReadAgain) where
  -- the cluster after the acts
  abbrev here : Cluster Value
  here = after_all_acts division weights acts

  -- A message with this datagram was sent, and said.
  pub record CameOf (d : Datagram) : Type 0 where
    pub message : Message Value
    pub is_sent : WasSent w.sent message
    pub datagram : Contains (split_of message) d

  pub read_as : (text : Text) (d : Datagram) → datagram_of text ≡ ok d → Contains w.sent text
      → CameOf d
  read_as text d e h =
      let s = m.sent text h in
      let p = has_preimage datagram_text (split_of s.message) text s.datagram in
      let same : p.0 ≡ d = ok_same p.0 d (sym
      (datagram_again p.0 (All-contains IsDatagram (split_of s.message) p.0
      (split_good s.message s.went_out.is_message) p.1))
      ∙ ap datagram_of (sym p.2) ∙ e) in
      record {
        message = s.message;
        is_sent = s.went_out;
        datagram =
            subst (Contains (split_of s.message)) same p.1;
      }

  -- a message that arrives in one datagram was sent
  pub whole_came : (text : Text) (n : Message Value) → datagram_of text ≡ ok (datagrams.Whole n)
      → Contains w.sent text → WasSent w.sent n
  whole_came text n e h =
      let c = read_as text (datagrams.Whole n) e h in by c.message c.is_sent
      (carried_in c.message.body) refl c.datagram
    where
      whole_same : (a b : Message Value) → datagrams.Whole a ≡ datagrams.Whole b → a ≡ b
      whole_same a b h = cc

      no_piece : (x : Piece) → datagrams.Whole n ≡ datagrams.Piece x → ⊥
      no_piece x h = cc

      only : {X : Type 0} (y x : X) → Contains (y ∷ []) x → y ≡ x
      only y x (zero, within, e) = e
      only y x (suc k, within, e) = absurd (omega arith)

      by : (a : Message Value) → WasSent w.sent a → (o : Option (Carrier × Value))
          → carried_in a.body ≡ o
          → Contains (split_by a o) (datagrams.Whole n) → WasSent w.sent n
      by a s None is d = subst (WasSent w.sent)
          (whole_same a n (only (datagrams.Whole a) (datagrams.Whole n) d)) s
      by a s (Some x) is d =
          let p = has_preimage (λ k. datagrams.Piece
          (piece_at (header_with a x.0 x.1) (build_text x.1) k))
          (numbers_of (length (build_text x.1))) (datagrams.Whole n) d in
          absurd (no_piece _ p.2)

  -- ---- pieces that were all kept

  module _ (h : Header) (pieces : List Piece) (first : Piece) (is_first : Contains pieces first)
      (its : first.header ≡ h)
      (sent : All (λ p. CameOf (datagrams.Piece p)) pieces)
      (once : AllPairs (λ p q. is_numbered q.header q.number p ≡ false) pieces)
      (all : are_all h pieces ≡ true) where
    -- the message of the first piece
    pub origin : CameOf (datagrams.Piece first)
    origin = All-contains (λ p. CameOf (datagrams.Piece p)) pieces first sent is_first

    was_said : (n : Message Value) → WasSent w.sent n → WasSaid w here n
    was_said = sent_was_said division weights acts w made of m again

    origin_carries : Carries origin.message h
    origin_carries = carries origin.message (datagrams.Piece first) h origin.datagram
        (ap (λ (x : Header). Some x) its)

    -- a piece with that header belongs to that message
    of_origin : (q : Piece) → Contains pieces q → q.header ≡ h
        → Contains (split_of origin.message) (datagrams.Piece q)
    of_origin q there e =
        let c = All-contains (λ p. CameOf (datagrams.Piece p)) pieces q sent there in
        subst (λ (n : Message Value). Contains (split_of n) (datagrams.Piece q))
        (said_equal division weights acts w made of m c.message origin.message h
        (was_said c.message c.is_sent) (was_said origin.message origin.is_sent)
        (carries c.message (datagrams.Piece q) h c.datagram (ap (λ (x : Header). Some x) e))
        origin_carries)
        c.datagram

    abbrev text : Text
    text = build_text origin_carries.build

    -- so it is the piece with its number
    is_piece_at : (q : Piece) → Contains pieces q → q.header ≡ h → q ≡ piece_at h text q.number
    is_piece_at q there e =
        let split : split_of origin.message ≡ pieces_of
        (header_with origin.message origin_carries.carrier origin_carries.build) text =
        ap (split_by origin.message) origin_carries.carried in
        let member = subst (λ ds. Contains ds (datagrams.Piece q)) split (of_origin q there e) in
        let p = has_preimage (λ k. datagrams.Piece
        (piece_at (header_with origin.message origin_carries.carrier origin_carries.build) text
        k))
        (numbers_of (length text)) (datagrams.Piece q) member in
        let same = piece_same q (piece_at
        (header_with origin.message origin_carries.carrier origin_carries.build) text p.0)
        p.2 in
        let number : p.0 ≡ q.number = sym (ap (λ (x : Piece). x.number) same) in
        same ∙ ap (λ k. piece_at k text p.0) origin_carries.header ∙ ap (piece_at h text) number
      where
        piece_same : (a b : Piece) → datagrams.Piece a ≡ datagrams.Piece b → a ≡ b
        piece_same a b e = cc

    -- it is there exactly once
    stands_once : (k : ℕ) → has_number h pieces k ≡ true → StandsOnce pieces (piece_at h text k)
    stands_once k there =
        let a = Any-from_list_any (is_numbered h k) pieces there in
        let q = a.1 in
        let parts = and_parts (q.number == k) (same_header h q.header) a.4 in
        let header : h ≡ q.header = headers_same h q.header parts.1 in
        let number : q.number ≡ k = eqb-true q.number k parts.0 in
        let contained : Contains pieces q = (a.0, a.2, a.3) in
        let same : q ≡ piece_at h text k = is_piece_at q contained (sym header)
        ∙ ap (piece_at h text) number in
        only_passes (is_numbered h k) pieces (piece_at h text k)
        (subst (Contains pieces) same contained)
        (subst (λ (p : Piece). is_numbered h k p ≡ true) same a.4) (no_two k)
      where
        no_two : (k : ℕ) → AllPairs (λ a b. is_numbered h k a ≡ true → is_numbered h k b ≡ true → ⊥)
            pieces
        no_two k i j d lt l first second =
            let q = get_or pieces j d in
            let parts = and_parts (q.number == k) (same_header h q.header) second in
            let header : h ≡ q.header = headers_same h q.header parts.1 in
            let number : k ≡ q.number = sym (eqb-true q.number k parts.0) in
            true≢false (sym
            (subst (λ (n : ℕ). is_numbered q.header n (get_or pieces i d) ≡ true) number
            (subst (λ (x : Header). is_numbered x k (get_or pieces i d) ≡ true) header first))
            ∙ once i j d lt l)

    all_there : AreAllThere h text pieces
    all_there k d l =
        stands_once _ (AllPass-from_list_all (has_number h pieces) (numbers_of h.length) all k d l)

    -- The pieces join to that message.
    pub joins_to : joined h (bytes_of h pieces) ≡ ok origin.message
    joins_to =
        ap (λ (x : Header). joined x (bytes_of x pieces)) (sym origin_carries.header)
        ∙ pieces_join_in_any_order again origin.message origin_carries.carrier origin_carries.build
        pieces origin.is_sent.is_message origin_carries.carried
        (subst (λ (x : Header). AreAllThere x text pieces) (sym origin_carries.header) all_there)
