-- A message of which all datagrams were sent was said; and pieces that were sent with equal headers
-- belong to equal messages.
use Rattle.std.proofs.Common.{◌≡◌, ◌≤◌, ℕ, zero, suc, true, List, [], ◌∷◌, length, map, Option, None, Some, Result, Ok, refl, sym, ap, subst, ◌∙◌, arith}
use Rattle.std.specs.Prelude.{Contains, flat_map}
use Rattle.std.proofs.lemmas.List.Elements.{All-contains}
use Rattle.std.proofs.lemmas.List.Sums.{AllPass-from_list_all}
use Rattle.faults.specs.Bytes.{Text, is_among}
use Rattle.claims.specs.AgreedList.{Act, Cluster, WasBuilt, beginning, lookup}
use Rattle.claims.specs.Messages as theory
use Rattle.claims.specs.Quorums.{is_majority}
use Rattle.claims.specs.Votes.{Has, ballot}
use Rattle.claims.specs.World.{IsLawfulWorld}
use Rattle.claims.proofs.Agreed.{is_agreed, lawful}
use Rattle.claims.proofs.AgreedList.{IsFine, IsOrdered, ordered}
use Rattle.claims.proofs.Majorities.{majorities}
use Rattle.ballots.specs.InTheAgreement.{said}
use Rattle.ballots.specs.declared.message.Body.{Body}
use Rattle.ballots.specs.declared.message.Message.{Message}
use Rattle.node.specs.Parcels.{datagrams_of}
use Rattle.package_record.specs.Build.{build_text}
use Rattle.package_record.specs.Laws.{BuildTextIsReadAgain}
use Rattle.protocol.specs.State.{Value}
use Rattle.engine.specs.Division.{Division, IsDivision}
use Rattle.engine.proofs.Names.{name_tells}
use Rattle.wire.specs.Laws.{AreAlikeButForTheBuild, AreItsPieces, bytes_in, header_in}
use Rattle.wire.specs.Pieces.{IsDatagram, body_with, carried_in, header_with, numbers_of, piece_at, pieces_of, split_by, split_of}
use Rattle.wire.specs.Reading.{datagram_of, joined}
use Rattle.wire.specs.Spelling.{datagram_text}
use Rattle.wire.specs.declared.WireFault.{WireFault}
use Rattle.wire.specs.declared.datagram.Carrier.{Carrier}
use Rattle.wire.specs.declared.datagram.Carrier.TheVariants as carriers
use Rattle.wire.specs.declared.datagram.Datagram.{Datagram}
use Rattle.wire.specs.declared.datagram.Datagram.TheVariants as datagrams
use Rattle.wire.specs.declared.datagram.Header.{Header}
use Rattle.wire.specs.declared.datagram.Piece.{Piece}
use Rattle.wire.proofs.Cutting.{equal_headers, header_good, headers_say_all, message_again, pieces_join, split_good, split_pieces}
use Rattle.wire.proofs.DatagramTexts.{datagram_again}
use Rattle.one_list.specs.Safety.{EachIsOfAMessage, EqualHeaders}
use Rattle.world.specs.Sent.{WasSent}
use Rattle.world.specs.World.{IsMade, World}
use Rattle.world.proofs.SentAdditions.{among_is}
use Rattle.one_list.specs.Matches.{Matches, WasSaid}
use Rattle.one_list.specs.Mirrored.{after_all_acts}
use Rattle.one_list.specs.Needs.{may_build}
use Rattle.one_list.proofs.sent.MonotoneNeeds.{needs_are_monotone}
use Rattle.one_list.proofs.sent.SentMessages.{each_is_of_a_message, has_preimage}
use Rattle.one_list.proofs.nodes.EqualParts.{only_one, some_same}

-- ---- lists

contains_map : {X Y : Type 0} (f : X → Y) (xs : List X) (x : X) → Contains xs x
    → Contains (map f xs) (f x)
contains_map f [] x (k, within, e) = absurd (omega arith)
contains_map f (y ∷ ys) x (zero, within, e) = (zero, omega arith, ap f e)
contains_map f (y ∷ ys) x (suc k, within, e) =
    let r = contains_map f ys x (k, omega (arith, within), e) in (suc r.0, omega (arith, r.1), r.2)

map_same : {X Y : Type 0} (f g : X → Y) (xs : List X) → ((x : X) → Contains xs x → f x ≡ g x)
    → map f xs ≡ map g xs
map_same f g [] same = refl
map_same f g (x ∷ xs) same =
    ap (λ y. y ∷ map f xs) (same x (zero, omega arith, refl))
    ∙ ap (λ ys. g x ∷ ys) (map_same f g xs (λ y m. same y (suc m.0, omega (arith, m.1), m.2)))

-- a list with bytes in it has an element
some_first : (ds : List Datagram) (n : ℕ) → 1 ≤ n → length (flat_map bytes_in ds) ≡ n
    → (d : Datagram) × Contains ds d
some_first [] n some e = absurd (omega (arith, some, e))
some_first (d ∷ ds) n some e = (d, (zero, omega arith, refl))

-- ---- datagrams of messages

-- a successful parse
abbrev pub ok : {X : Type 0} → X → Result X WireFault
ok x = Ok x

pub ok_same : {X : Type 0} (x y : X) → ok x ≡ ok y → x ≡ y
ok_same x y h = cc

-- a datagram is determined by its text
one_datagram : (d e : Datagram) → IsDatagram d → IsDatagram e → datagram_text d ≡ datagram_text e
    → d ≡ e
one_datagram d e first second same =
    ok_same d e (sym (datagram_again d first) ∙ ap datagram_of same ∙ datagram_again e second)

-- each datagram of a message that was sent was sent
pub datagram_was_sent : (sent : List Text) (n : Message Value) → WasSent sent n → (d : Datagram)
    → Contains (split_of n) d
    → Contains sent (datagram_text d)
datagram_was_sent sent n s d h =
    among_is sent (datagram_text d)
    (All-contains (λ t. is_among sent t ≡ true) (datagrams_of n) (datagram_text d)
    (AllPass-from_list_all (is_among sent) (datagrams_of n) s.went_out)
    (contains_map datagram_text (split_of n) d h))

-- a message with a piece carries a build, and has the piece's header
pub record Carries (n : Message Value) (h : Header) : Type 0 where
  pub carrier : Carrier
  pub build : Value
  pub carried : carried_in n.body ≡ Some (carrier, build)
  pub header : header_with n carrier build ≡ h

pub carries : (n : Message Value) (d : Datagram) (h : Header) → Contains (split_of n) d
    → header_in d ≡ Some h → Carries n h
carries n d h m e = by (carried_in n.body) refl m
  where
    by : (o : Option (Carrier × Value)) → carried_in n.body ≡ o → Contains (split_by n o) d
        → Carries n h
    by None is m = absurd (let wrong : None ≡ Some h = ap header_in
        (only_one (datagrams.Whole n) d m) ∙ e in cc)
    by (Some x) is m =
        let p = has_preimage (λ k. datagrams.Piece
        (piece_at (header_with n x.0 x.1) (build_text x.1) k))
        (numbers_of (length (build_text x.1))) d m in
        record {
          carrier = x.0;
          build = x.1;
          carried = is;
          header = some_same (header_with n x.0 x.1) h (sym (ap header_in p.2) ∙ e);
        }

-- ---- in a world that matches

module _ (division : Division) (weights : List ℕ) (acts : List (Act Value)) (w : World)
    (made : IsMade division weights)
    (of : (w.division ≡ division) × (w.weights ≡ weights))
    (m : Matches w (after_all_acts division weights acts)) where
  -- the cluster after the acts
  abbrev reached : Cluster Value
  reached = after_all_acts division weights acts

  pub in_order : IsOrdered Value (is_majority weights) (may_build division)
      (WasBuilt (is_majority weights) (may_build division) acts beginning) reached
  in_order = ordered Value (is_majority weights) (majorities weights) (may_build division)
      (needs_are_monotone division) acts

  pub lawful_there : (u : ℕ) → IsLawfulWorld (is_majority weights) (reached.at u)
  lawful_there u = lawful Value (is_majority weights) (majorities weights)
      (IsFine (may_build division) (WasBuilt (is_majority weights) (may_build division) acts
      beginning) reached.list u) (reached.at u) (in_order.sound u)

  pub told_there : (u : ℕ) (v : Value) → Has (reached.at u).sent (theory.Agreed v)
      → lookup reached.list u ≡ Some v
  told_there u v h = is_agreed (is_majority weights) (reached.at u) v (lookup reached.list u)
      ((in_order.sound u).said (theory.Agreed v) h) (in_order.values u)

  pub divided : IsDivision w.division
  divided = subst IsDivision (sym of.0) made.divided

  -- the build that a message carries is determined by the rest of the message
  one_build : (u sender : ℕ) (c : Carrier) (v x : Value)
      → Has (reached.at u).sent (said sender (body_with c v))
      → Has (reached.at u).sent (said sender (body_with c x)) → v ≡ x
  one_build u sender (carriers.Promise c d) v x first second =
      let l = lawful_there u in
      l.one d v x
      (l.votes (record { member = sender; ballot = ballot d v })
      (l.reports (record { member = sender; claim = c; report = Some (ballot d v) }) first).1)
      (l.votes (record { member = sender; ballot = ballot d x })
      (l.reports (record { member = sender; claim = c; report = Some (ballot d x) }) second).1)
  one_build u sender (carriers.Propose c) v x first second = (lawful_there u).one c v x first second
  one_build u sender carriers.Agreed v x first second =
      some_same v x (sym (told_there u v first) ∙ told_there u x second)

  -- messages that were said with equal headers are equal
  pub said_equal : (a b : Message Value) (h : Header) → WasSaid w reached a → WasSaid w reached b
      → Carries a h → Carries b h → a ≡ b
  said_equal a b h sa sb ca cb =
      headers_say_all a b ca.carrier cb.carrier ca.build ca.carried
      (cb.carried ∙ ap (λ z. Some (cb.carrier, z)) (sym builds))
      (same ∙ ap (header_with b cb.carrier) (sym builds))
    where
      same : header_with a ca.carrier ca.build ≡ header_with b cb.carrier cb.build
      same = ca.header ∙ sym cb.header

      alike : AreAlikeButForTheBuild a b ca.carrier cb.carrier ca.build cb.build
      alike = (equal_headers a b ca.carrier cb.carrier ca.build cb.build ca.carried cb.carried).0
          same

      units : sa.unit ≡ sb.unit
      units = name_tells w.division sa.unit sb.unit divided sa.listed sb.listed
          (sym sa.about ∙ alike.path ∙ sb.about)

      body_a : a.body ≡ body_with ca.carrier ca.build
      body_a = sym (ap (λ (n : Message Value). n.body)
          (message_again a ca.carrier ca.build ca.carried))

      body_b : b.body ≡ body_with ca.carrier cb.build
      body_b = sym (ap (λ (n : Message Value). n.body)
          (message_again b cb.carrier cb.build cb.carried))
          ∙ ap (λ (k : Carrier). body_with k cb.build) (sym alike.carrier)

      first : Has (reached.at sa.unit).sent (said a.sender (body_with ca.carrier ca.build))
      first = subst (λ (z : Body Value). Has (reached.at sa.unit).sent (said a.sender z)) body_a
          sa.said_there

      second : Has (reached.at sa.unit).sent (said a.sender (body_with ca.carrier cb.build))
      second =
          subst (λ (k : ℕ). Has (reached.at sa.unit).sent (said k (body_with ca.carrier cb.build)))
          (sym alike.sender)
          (subst (λ (z : Body Value). Has (reached.at sa.unit).sent (said b.sender z)) body_b
          (subst (λ (u : ℕ). Has (reached.at u).sent (said b.sender b.body)) (sym units)
          sb.said_there))

      builds : ca.build ≡ cb.build
      builds = one_build sa.unit a.sender ca.carrier ca.build cb.build first second

  -- each datagram of a message that was sent belongs to a message that was said
  record IsOfASaid (d : Datagram) : Type 0 where
    message : Message Value
    is_sent : WasSent w.sent message
    was_said : WasSaid w reached message
    datagram : Contains (split_of message) d

  of_a_said : (n : Message Value) → WasSent w.sent n → (d : Datagram) → Contains (split_of n) d
      → IsOfASaid d
  of_a_said n s d h =
      let there = m.sent (datagram_text d) (datagram_was_sent w.sent n s d h) in
      let p = has_preimage datagram_text (split_of there.message) (datagram_text d)
      there.datagram in
      let same = one_datagram d p.0
      (All-contains IsDatagram (split_of n) d (split_good n s.is_message) h)
      (All-contains IsDatagram (split_of there.message) p.0
      (split_good there.message there.went_out.is_message) p.1) p.2 in
      record {
        message = there.message;
        is_sent = there.went_out;
        was_said = record {
          unit = there.unit;
          listed = there.listed;
          about = there.about;
          tree = there.tree;
          sender = there.sender;
          claimers = there.claimers;
          said_there = there.said_there;
        };
        datagram = subst (Contains (split_of there.message)) (sym same) p.1;
      }

  -- a message without a build that was sent was said
  whole_was_said : (n : Message Value) → WasSent w.sent n → carried_in n.body ≡ None
      → WasSaid w reached n
  whole_was_said n s none =
      let o = of_a_said n s (datagrams.Whole n)
      (subst (λ ds. Contains ds (datagrams.Whole n)) (sym (ap (split_by n) none))
      (zero, omega arith, refl)) in
      by o.message (carried_in o.message.body) refl o.datagram o.was_said
    where
      whole_same : (a b : Message Value) → datagrams.Whole a ≡ datagrams.Whole b → a ≡ b
      whole_same a b h = cc

      by : (a : Message Value) (c : Option (Carrier × Value)) → carried_in a.body ≡ c
          → Contains (split_by a c) (datagrams.Whole n)
          → WasSaid w reached a → WasSaid w reached n
      by a None is h was = subst (WasSaid w reached)
          (whole_same a n (only_one (datagrams.Whole a) (datagrams.Whole n) h)) was
      by a (Some x) is h was =
          let p = has_preimage (λ k. datagrams.Piece
          (piece_at (header_with a x.0 x.1) (build_text x.1) k))
          (numbers_of (length (build_text x.1))) (datagrams.Whole n) h in
          absurd (let wrong = p.2 in cc)

  module _ (again : BuildTextIsReadAgain) where
    -- messages are equal if all datagrams of the first are among those of the second, with the same
    -- header
    same_pieces : (a b : Message Value) (h : Header) → WasSent w.sent a → WasSent w.sent b
        → (ca : Carries a h) (cb : Carries b h)
        → ((d : Datagram) → Contains (split_of a) d → Contains (split_of b) d) → a ≡ b
    same_pieces a b h sa sb ca cb within =
        ok_same a b (sym (pieces_join again a ca.carrier ca.build sa.is_message ca.carried)
        ∙ ap (λ k. joined k (build_text ca.build)) headers
        ∙ ap (joined (header_with b cb.carrier cb.build)) texts
        ∙ pieces_join again b cb.carrier cb.build sb.is_message cb.carried)
      where
        headers : header_with a ca.carrier ca.build ≡ header_with b cb.carrier cb.build
        headers = ca.header ∙ sym cb.header

        split_a : split_of a ≡ pieces_of (header_with a ca.carrier ca.build) (build_text ca.build)
        split_a = ap (split_by a) ca.carried

        split_b : split_of b ≡ pieces_of (header_with b cb.carrier cb.build) (build_text cb.build)
        split_b = ap (split_by b) cb.carried

        lengths : length (build_text ca.build) ≡ length (build_text cb.build)
        lengths = ap (λ (k : Header). k.length) headers

        piece_of_a : ℕ → Datagram
        piece_of_a k =
            datagrams.Piece (piece_at (header_with a ca.carrier ca.build) (build_text ca.build) k)

        piece_of_b : ℕ → Datagram
        piece_of_b k =
            datagrams.Piece (piece_at (header_with b cb.carrier cb.build) (build_text cb.build) k)

        each : (k : ℕ) → Contains (numbers_of (length (build_text ca.build))) k
            → piece_of_a k ≡ piece_of_b k
        each k there =
            let mine = subst (λ ds. Contains ds (piece_of_a k)) (sym split_a)
            (contains_map piece_of_a (numbers_of (length (build_text ca.build))) k there) in
            let other =
            subst (λ ds. Contains ds (piece_of_a k)) split_b (within (piece_of_a k) mine) in
            let p = has_preimage piece_of_b (numbers_of (length (build_text cb.build)))
            (piece_of_a k) other in
            let number : k ≡ p.0 = number_same (piece_at _ _ k) (piece_at _ _ p.0) p.2 in
            p.2 ∙ ap piece_of_b (sym number)
          where
            number_same : (x y : Piece) → datagrams.Piece x ≡ datagrams.Piece y
                → x.number ≡ y.number
            number_same x y e = let same : x ≡ y = cc in ap (λ (z : Piece). z.number) same

        splits : split_of a ≡ split_of b
        splits = split_a ∙ map_same piece_of_a piece_of_b
            (numbers_of (length (build_text ca.build))) each
            ∙ ap (λ n. map piece_of_b (numbers_of n)) lengths ∙ sym split_b

        texts : build_text ca.build ≡ build_text cb.build
        texts = sym (split_pieces a ca.carrier ca.build sa.is_message ca.carried).bytes
            ∙ ap (flat_map bytes_in) splits
            ∙ (split_pieces b cb.carrier cb.build sb.is_message cb.carried).bytes

    -- a message with a build that was sent was said
    build_was_said : (n : Message Value) (c : Carrier) (v : Value) → WasSent w.sent n
        → carried_in n.body ≡ Some (c, v) → WasSaid w reached n
    build_was_said n c v s carried = subst (WasSaid w reached) (sym same) first.was_said
      where
        h : Header
        h = header_with n c v

        mine : Carries n h
        mine = record { carrier = c; build = v; carried = carried; header = refl }

        are : AreItsPieces h v (split_of n)
        are = split_pieces n c v s.is_message carried

        headed : (d : Datagram) → Contains (split_of n) d → header_in d ≡ Some h
        headed d m = All-contains (λ d. header_in d ≡ Some h) (split_of n) d are.headers m

        some : (d : Datagram) × Contains (split_of n) d
        some = some_first (split_of n) (length (build_text v))
            (header_good n c v s.is_message carried).some (ap length are.bytes)

        first : IsOfASaid some.0
        first = of_a_said n s some.0 some.1

        its : Carries first.message h
        its = carries first.message some.0 h first.datagram (headed some.0 some.1)

        same : n ≡ first.message
        same = same_pieces n first.message h s first.is_sent mine its
            (λ d m. let o = of_a_said n s d m in
            subst (λ (x : Message Value). Contains (split_of x) d)
            (said_equal o.message first.message h o.was_said first.was_said
            (carries o.message d h o.datagram (headed d m)) its) o.datagram)

    -- A message of which all datagrams were sent was said.
    pub sent_was_said : (n : Message Value) → WasSent w.sent n → WasSaid w reached n
    sent_was_said n s = by (carried_in n.body) refl
      where
        by : (o : Option (Carrier × Value)) → carried_in n.body ≡ o → WasSaid w reached n
        by None is = whole_was_said n s is
        by (Some x) is = build_was_said n x.0 x.1 s is

    -- Pieces that were sent with equal headers belong to equal messages, and each datagram that was
    -- sent belongs to a message of which all datagrams were sent.
    pub headers_are_equal : EqualHeaders w × EachIsOfAMessage w
    headers_are_equal = (
      λ a b p q sa sb e.
          said_equal a b q.header (sent_was_said a sa.is_sent) (sent_was_said b sb.is_sent)
          (carries a (datagrams.Piece p) q.header sa.piece (ap Some e))
          (carries b (datagrams.Piece q) q.header sb.piece refl),
      each_is_of_a_message w reached m,
    )
