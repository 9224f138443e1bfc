-- No datagram that was sent is refused as foreign.
use Rattle.std.proofs.Common.{◌≡◌, ◌<◌, ℕ, zero, suc, Bool, true, false, not, ◌&&◌, ◌⊎◌, nat_le, List, [], ◌∷◌, length, None, Some, is_none, Result, Ok, Err, nat_lt, slice_get, refl, sym, ap, subst, ◌∙◌, arith, inl, inr, ⊎_elim}
use Rattle.std.specs.Prelude.{All, AllPairs, Contains}
use Rattle.std.specs.List.{list_all}
use Rattle.std.specs.Str.{bytes_eq}
use Rattle.std.proofs.lemmas.Bool.{and_from, cond_both, lt-ltb}
use Rattle.std.proofs.lemmas.List.Elements.{All-append, All-cons, All-contains, All-head, All-nil, All-tail, All-weaker, Contains-push}
use Rattle.faults.specs.Answers.{first_that_applies}
use Rattle.faults.specs.Bytes.{Text}
use Rattle.claims.specs.AgreedList.{Act}
use Rattle.ballots.specs.declared.message.Body.{Body}
use Rattle.ballots.specs.declared.message.Message.{Message}
use Rattle.node.specs.Arrival.{Arrival, Strange, Waits, Whole, arrival_of, arrival_of_all, arrival_of_new, arrival_of_piece, refusal_of}
use Rattle.node.specs.Kept.{are_all, has_number, members_in, with_piece, without}
use Rattle.protocol.specs.Events as events
use Rattle.protocol.specs.Events.{Event}
use Rattle.node.specs.Step.{Asked, Comes, Does, Taken, heard, nothing, running_step, step_on, taken}
use Rattle.node.specs.declared.fault.Foreign.{Foreign}
use Rattle.node.specs.declared.fault.NodeFault.{NodeFault}
use Rattle.node.specs.declared.fault.NodeFault.TheVariants as fault
use Rattle.node.proofs.Pieces.{with_once}
use Rattle.package_record.specs.Laws.{BuildTextIsReadAgain}
use Rattle.protocol.specs.Answers.{Answer, tree_digest}
use Rattle.protocol.specs.State.{State, Value}
use Rattle.protocol.specs.Step as members
use Rattle.protocol.specs.Step.{at_unit, header_refusal, hears, members_of, unless}
use Rattle.protocol.specs.declared.input.Input.{Input}
use Rattle.protocol.specs.declared.input.Input.TheVariants as inputs
use Rattle.protocol.specs.declared.refusal.Refusal.{Refusal}
use Rattle.protocol.specs.declared.refusal.Refusal.TheVariants as refusals
use Rattle.stable_record.specs.declared.log_fault.LogFault.TheVariants.{Full}
use Rattle.engine.specs.Division.{Division, number_named}
use Rattle.engine.proofs.Names.{name_is_found}
use Rattle.engine.proofs.Places.{equal_bytes}
use Rattle.wire.specs.Joining.{bytes_of, is_numbered}
use Rattle.wire.specs.Pieces.{IsDatagram, body_with, split_of}
use Rattle.wire.specs.Reading.{datagram_of, joined}
use Rattle.wire.specs.Spelling.{datagram_text}
use Rattle.wire.specs.declared.datagram.Carrier.{Carrier}
use Rattle.wire.specs.declared.datagram.Carrier.TheVariants as carriers
use Rattle.wire.specs.declared.datagram.Datagram.{Datagram}
use Rattle.wire.specs.declared.datagram.Datagram.TheVariants as datagrams
use Rattle.wire.specs.declared.datagram.Header.{Header}
use Rattle.wire.specs.declared.datagram.Piece.{Piece}
use Rattle.wire.proofs.Cutting.{message_again, split_good}
use Rattle.wire.proofs.DatagramTexts.{datagram_again}
use Rattle.world.specs.Happening.{Asks, IsRefused, is_bad_stop, is_restart, is_up, lacks_datagram}
use Rattle.one_list.specs.Safety.{WasSentOf}
use Rattle.world.specs.Sent.{WasSent}
use Rattle.world.specs.World.{IsMade, World, WorldNode, member_at}
use Rattle.world.specs.declared.fault.WorldFault.TheVariants as worlds
use Rattle.one_list.specs.Local.{AreKept, AreLocal}
use Rattle.one_list.specs.Matches.{Matches, WasSaid}
use Rattle.one_list.specs.Mirrored.{after_all_acts}
use Rattle.one_list.proofs.sent.ArrivedMessages.{CameOf, joins_to, origin, read_as, whole_came}
use Rattle.one_list.proofs.nodes.EqualParts.{some_same}
use Rattle.one_list.proofs.sent.MessageHeaders.{carries, divided, ok, sent_was_said}
use Rattle.one_list.proofs.sent.SentMessages.{has_preimage}

-- ---- headers that give no reason to refuse

-- numbers that are all below the bound
all_below : (n : ℕ) (ks : List ℕ) → All (λ k. k < n) ks → list_all (λ k. nat_lt k n) ks ≡ true
all_below n [] are = refl
all_below n (k ∷ ks) are =
    and_from (nat_lt k n) (list_all (λ k. nat_lt k n) ks)
    (lt-ltb k n (All-head (λ k. k < n) k ks are))
    (all_below n ks (All-tail (λ k. k < n) k ks are))

-- if all tests fail, none applies
none_applies : (a b c : Bool) (x y z : Refusal) → a ≡ false → b ≡ false → c ≡ false
    → first_that_applies ((a, x) ∷ (b, y) ∷ (c, z) ∷ []) ≡ None
none_applies a b c x y z ea eb ec =
    ap (λ t. first_that_applies ((t, x) ∷ (b, y) ∷ (c, z) ∷ [])) ea
    ∙ ap (λ t. first_that_applies ((t, y) ∷ (c, z) ∷ [])) eb
    ∙ ap (λ t. first_that_applies ((t, z) ∷ [])) ec

not_refused : (s : State) (tree : Text) (named : List ℕ) (path : Text) (u : ℕ)
    → tree ≡ tree_digest s.division.tree
    → All (λ k. k < length s.weights) named → number_named s.division path ≡ Some u
    → header_refusal s tree named path ≡ None
not_refused s tree named path u et en eu =
    none_applies (not (bytes_eq tree (tree_digest s.division.tree)))
    (not (list_all (λ k. nat_lt k (length s.weights)) named))
    (is_none (number_named s.division path)) refusals.OtherTree refusals.NotAMember
    refusals.Unlisted
    (ap not (equal_bytes tree (tree_digest s.division.tree) et))
    (ap not (all_below (length s.weights) named en))
    (ap is_none eu)

-- ---- in a world that matches

-- The step does not refuse the datagram as foreign.
abbrev pub IsNoStranger : Result Taken NodeFault → Type 0
IsNoStranger r = (f : Foreign) → r ≡ Err (fault.Foreign f) → ⊥

-- The datagram is not foreign; and if it completes a message, that message was sent.
abbrev pub IsWelcome : World → Arrival → Type 0
IsWelcome w (Strange f pieces) = ⊥
IsWelcome w (Waits pieces) = Unit {0}
IsWelcome w (Whole n pieces) = WasSent w.sent n

ok_is_none : (t : Taken) → IsNoStranger (Ok t)
ok_is_none t f e = cc

module _ (division : Division) (weights : List ℕ) (acts : List (Act Value)) (w : World)
    (made : IsMade division weights)
    (of : (w.division ≡ division) × (w.weights ≡ weights))
    (m : Matches w (after_all_acts division weights acts)) (again : BuildTextIsReadAgain)
    (k : ℕ) (x : WorldNode) where
  abbrev s : State
  s = member_at w k x

  said : (n : Message Value) → WasSent w.sent n → WasSaid w (after_all_acts division weights acts) n
  said = sent_was_said division weights acts w made of m again

  named_there : (n : Message Value) (a : WasSaid w (after_all_acts division weights acts) n)
      → number_named w.division n.path ≡ Some a.unit
  named_there n a = ap (number_named w.division) a.about
      ∙ name_is_found w.division a.unit (divided division weights acts w made of m) a.listed

  -- a message that was sent is answered
  pub answered : (pieces : List Piece) (n : Message Value) → WasSent w.sent n → (t : Taken)
      × (heard pieces (members.heard s n) ≡ Ok t)
  answered pieces n is_sent =
      let a = said n is_sent in
      let none = not_refused s n.tree (n.sender ∷ members_of n.body) n.path a.unit a.tree
      (All-cons (λ k. k < length w.weights) n.sender (members_of n.body) a.sender a.claimers)
      (named_there n a) in (
        record { answer = hears s a.unit n.sender n.body; pieces = pieces },
        ap (λ o. heard pieces
            (unless o (at_unit refusals.Unlisted (λ u. Ok (hears s u n.sender n.body))
            (number_named s.division n.path)))) none
            ∙ ap (λ u. heard pieces
            (at_unit refusals.Unlisted (λ u. Ok (hears s u n.sender n.body)) u)) (named_there n a),
      )

  -- the claims in the carrier are those of the message
  same_members : (c : Carrier) (v : Value) → members_of (body_with c v) ≡ members_in c
  same_members (carriers.Promise c d) v = refl
  same_members (carriers.Propose c) v = refl
  same_members carriers.Agreed v = refl

  -- a piece of a message that was sent is not refused
  pub piece_welcome : (p : Piece) → CameOf division weights acts w made of m again
      (datagrams.Piece p) → refusal_of s p.header ≡ None
  piece_welcome p c =
      let a = said c.message c.is_sent in
      let b = carries c.message (datagrams.Piece p) p.header c.datagram refl in
      let body = ap (λ (n : Message Value). n.body)
      (message_again c.message b.carrier b.build b.carried) in
      let claimers : All (λ k. k < length w.weights) (members_in b.carrier) =
      subst (All (λ k. k < length w.weights)) (same_members b.carrier b.build)
      (subst (λ (z : Body Value). All (λ k. k < length w.weights) (members_of z)) (sym body)
      a.claimers) in
      subst (λ (h : Header). refusal_of s h ≡ None) b.header
      (not_refused s c.message.tree (c.message.sender ∷ members_in b.carrier) c.message.path a.unit
      a.tree
      (All-cons (λ k. k < length w.weights) c.message.sender (members_in b.carrier) a.sender
      claimers) (named_there c.message a))

  -- so a welcome datagram is answered
  pub welcome_step : (a : Arrival) → IsWelcome w a → IsNoStranger (step_on s a)
  welcome_step (Strange f pieces) welcome = absurd welcome
  welcome_step (Waits pieces) welcome = ok_is_none (record { answer = nothing s; pieces = pieces })
  welcome_step (Whole n pieces) is_sent = let t =
      answered pieces n is_sent in subst IsNoStranger (sym t.1) (ok_is_none t.0)

  -- ---- what arrives at a node that keeps these pieces

  module _ (pieces : List Piece) (kept : AreKept w pieces) where
    -- a piece that was not there before
    module _ (p : Piece) (came : CameOf division weights acts w made of m again (datagrams.Piece p))
        (new : has_number p.header pieces p.number ≡ false) where
      all_came : All (λ q. CameOf division weights acts w made of m again (datagrams.Piece q))
          (with_piece pieces p)
      all_came = All-append (λ q. CameOf division weights acts w made of m again
          (datagrams.Piece q)) pieces (p ∷ [])
          (All-weaker (λ q. (n : Message Value) × WasSentOf w.sent n q)
          (λ q. CameOf division weights acts w made of m again (datagrams.Piece q))
          (λ q o. record { message = o.0; is_sent = (o.1).is_sent; datagram = (o.1).piece }) pieces
          kept.sent)
          (All-cons (λ q. CameOf division weights acts w made of m again (datagrams.Piece q)) p []
          came
          (All-nil (λ q. CameOf division weights acts w made of m again (datagrams.Piece q))))

      each_once : AllPairs (λ a b. is_numbered b.header b.number a ≡ false) (with_piece pieces p)
      each_once = with_once pieces p kept.once new

      -- either its message still waits, or it is complete now
      new_piece : IsWelcome w (arrival_of_new pieces p)
      new_piece = cond_both (are_all p.header (with_piece pieces p))
          (arrival_of_all (without p.header pieces)
          (joined p.header (bytes_of p.header (with_piece pieces p)))) (Waits (with_piece pieces p))
          (IsWelcome w)
          (λ all.
          let first = Contains-push pieces p in
          let message = origin division weights acts w made of m again p.header
          (with_piece pieces p) p first refl all_came each_once all in
          let whole = joins_to division weights acts w made of m again p.header
          (with_piece pieces p) p first refl all_came each_once all in
          subst (λ r. IsWelcome w (arrival_of_all (without p.header pieces) r)) (sym whole)
          message.is_sent)
          (λ waits. tt)

    piece_comes : (p : Piece) → CameOf division weights acts w made of m again (datagrams.Piece p)
        → IsWelcome w (arrival_of_piece pieces p (refusal_of s p.header))
    piece_comes p came =
        subst (λ r. IsWelcome w (arrival_of_piece pieces p r)) (sym (piece_welcome p came))
        (cond_both (has_number p.header pieces p.number) (Waits pieces) (arrival_of_new pieces p)
        (IsWelcome w)
        (λ there. tt)
        (λ new. new_piece p came new))

    read_there : (text : Text) → Contains w.sent text → (d : Datagram) × (datagram_of text ≡ ok d)
    read_there text h =
        let there = m.sent text h in
        let p = has_preimage datagram_text (split_of there.message) text there.datagram in (
          p.0,
          ap datagram_of p.2 ∙ datagram_again p.0
              (All-contains IsDatagram (split_of there.message) p.0
              (split_good there.message there.went_out.is_message) p.1),
        )

    -- A datagram that was sent is welcome.
    pub comes_welcome : (text : Text) → Contains w.sent text
        → IsWelcome w (arrival_of s pieces (datagram_of text))
    comes_welcome text h = by (read_there text h).0 (read_there text h).1
      where
        by : (d : Datagram) → datagram_of text ≡ ok d
            → IsWelcome w (arrival_of s pieces (datagram_of text))
        by (datagrams.Whole n) e =
            subst (λ r. IsWelcome w (arrival_of s pieces r)) (sym e)
            (whole_came division weights acts w made of m again text n e h)
        by (datagrams.Piece p) e =
            subst (λ r. IsWelcome w (arrival_of s pieces r)) (sym e)
            (piece_comes p (read_as division weights acts w made of m again text (datagrams.Piece p)
            e h))

-- ---- so no event is refused as foreign

-- a step that is refused with this fault
abbrev refused : NodeFault → Result Taken NodeFault
refused f = Err f

refused_same : (a b : NodeFault) → refused a ≡ refused b → a ≡ b
refused_same a b e = cc

taken_no_stranger : (pieces : List Piece) (r : Result Answer Refusal)
    → IsNoStranger (taken pieces r)
taken_no_stranger pieces (Ok a) f e = ok_is_none (record { answer = a; pieces = pieces }) f e
taken_no_stranger pieces (Err r) f e = let wrong : fault.Refused r ≡ fault.Foreign f =
    refused_same (fault.Refused r) (fault.Foreign f) e in cc

-- the tests before the node is asked are not refusals by a node
five_tests : (a b c d e : Bool) (r : NodeFault) → first_that_applies (
    (a, worlds.BadTrace 0) ∷ (b, worlds.NoSuchNode) ∷ (c, worlds.NodeDown) ∷ (d, worlds.NodeUp)
    ∷ (e, worlds.NoSuchDatagram) ∷ []) ≡ Some (worlds.Node r) → ⊥
five_tests true b c d e r h = let wrong : Some (worlds.BadTrace 0) ≡ Some (worlds.Node r) = h in cc
five_tests false true c d e r h = let wrong : Some worlds.NoSuchNode ≡ Some (worlds.Node r) =
    h in cc
five_tests false false true d e r h = let wrong : Some worlds.NodeDown ≡ Some (worlds.Node r) =
    h in cc
five_tests false false false true e r h = let wrong : Some worlds.NodeUp ≡ Some (worlds.Node r) =
    h in cc
five_tests false false false false true r h =
    let wrong : Some worlds.NoSuchDatagram ≡ Some (worlds.Node r) = h in cc
five_tests false false false false false r h = let wrong : None ≡ Some (worlds.Node r) = h in cc

pub get_contains : {X : Type 0} (xs : List X) (k : ℕ) (x : X) → slice_get xs k ≡ Some x
    → Contains xs x
get_contains [] k x e = absurd cc
get_contains (y ∷ ys) zero x e = (zero, omega arith, some_same y x e)
get_contains (y ∷ ys) (suc k) x e = let r =
    get_contains ys k x e in (suc r.0, omega (arith, r.1), r.2)

-- an event asks for an input, or delivers what was sent
asks_kinds : (w : World) (e : Event) (asked : Asked) → Asks w e asked
    → ((input : Input) × (asked ≡ Does input))
    ⊎ ((text : Text) × Contains w.sent text × (asked ≡ Comes text))
asks_kinds w (events.Claim n path host above) asked h = inl (inputs.Claim path host above, h)
asks_kinds w (events.Built n path packages) asked h = inl (inputs.Built path packages, h)
asks_kinds w (events.Failed n path) asked h = inl (inputs.Failed path, h)
asks_kinds w (events.Nudge n) asked h = inl (inputs.Nudge, h)
asks_kinds w (events.Ask n path) asked h = inl (inputs.Ask path, h)
asks_kinds w (events.Deliver d n) asked h = inr (h.0, get_contains w.sent d h.0 h.1, h.2)
asks_kinds w (events.Stop n) asked h = absurd h
asks_kinds w (events.StopIn e left) asked h = asks_kinds w e asked h
asks_kinds w (events.Restart n) asked h = absurd h

-- In a world that matches, if nodes satisfy their invariant, no event is refused as foreign.
pub never_foreign : (division : Division) (weights : List ℕ) (acts : List (Act Value)) (w : World)
    → IsMade division weights
    → (w.division ≡ division) × (w.weights ≡ weights)
    → Matches w (after_all_acts division weights acts) → BuildTextIsReadAgain
    → AreLocal w → (e : Event) (f : Foreign) → IsRefused w e (worlds.Node (fault.Foreign f)) → ⊥
never_foreign division weights acts w made of m again local e f (inl before) =
    five_tests (is_bad_stop e) (nat_le (length w.nodes) (events.node_of e))
    (not (is_restart e) && not (is_up w (events.node_of e)))
    (is_restart e && is_up w (events.node_of e)) (lacks_datagram w e) (fault.Foreign f) before
never_foreign division weights acts w made of m again local e f (inr (none, inr (full, h))) =
    node_log f (node_same (fault.Foreign f) (fault.Log Full) h)
  where
    node_same : (a b : NodeFault) → worlds.Node a ≡ worlds.Node b → a ≡ b
    node_same a b h = cc

    node_log : (f : Foreign) → fault.Foreign f ≡ fault.Log Full → ⊥
    node_log f h = cc
never_foreign division weights acts w made of m again local e f (inr (none, inl (r, refuses, h))) =
    ⊎_elim
    (λ i. taken_no_stranger refuses.node.pieces (members.answer here refuses.refuses.letter i.0) f
    (sym (is_foreign ∙ ap (running_step here refuses.node.pieces refuses.refuses.letter) i.1)))
    (λ t. welcome_step division weights acts w made of m again (events.node_of e) refuses.node
    (arrival_of here refuses.node.pieces (datagram_of t.0))
    (comes_welcome division weights acts w made of m again (events.node_of e) refuses.node
    refuses.node.pieces kept t.0 t.1) f
    (sym (is_foreign ∙ ap (running_step here refuses.node.pieces refuses.refuses.letter) t.2)))
    (asks_kinds w e refuses.asked refuses.asks)
  where
    here : State
    here = member_at w (events.node_of e) refuses.node

    kept : AreKept w refuses.node.pieces
    kept = (local.each (events.node_of e) refuses.node refuses.is_up.stands).pieces

    node_same : (a b : NodeFault) → worlds.Node a ≡ worlds.Node b → a ≡ b
    node_same a b h = cc

    -- the node's refusal, as its step
    is_foreign : refused (fault.Foreign f) ≡ running_step here refuses.node.pieces
        refuses.refuses.letter refuses.asked
    is_foreign = ap refused (node_same (fault.Foreign f) r h) ∙ refuses.refuses.right_is
