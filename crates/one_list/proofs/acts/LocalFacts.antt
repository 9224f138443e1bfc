-- Each event preserves the invariant of nodes.
use Rattle.std.proofs.Common.{◌≡◌, ◌<◌, ℕ, true, false, List, [], ◌∷◌, length, Option, None, Some, Result, Ok, Err, slice_get, slice_set, refl, sym, ap, subst, ◌∙◌, ⊎_elim}
use Rattle.std.specs.Prelude.{All, AllPairs, Contains}
use Rattle.std.proofs.lemmas.Bool.{cond_both, true≢false}
use Rattle.std.proofs.lemmas.List.{length-set}
use Rattle.std.proofs.lemmas.List.Elements.{All-append, All-cons, All-contains, All-filter, All-nil, All-weaker}
use Rattle.claims.specs.Member.{Facts}
use Rattle.claims.proofs.Nodes.{get_set}
use Rattle.ballots.specs.declared.message.Message.{Message}
use Rattle.ballots.specs.declared.message.Note.{Note}
use Rattle.engine.specs.declared.Letter.{Letter}
use Rattle.faults.specs.Bytes.{Text}
use Rattle.node.specs.Arrival.{Arrival, Strange, Waits, Whole, arrival_of, arrival_of_all, arrival_of_new, arrival_of_piece, refusal_of}
use Rattle.protocol.specs.Events as events
use Rattle.protocol.specs.Events.{Event, is_step}
use Rattle.node.specs.Kept.{are_all, has_number, with_piece, without}
use Rattle.node.specs.State.{with_note}
use Rattle.node.specs.Step.{Asked, Does, IsAsked, Taken, Takes, heard, nothing, running_step, step_on, taken}
use Rattle.protocol.specs.declared.event.Left.TheVariants as left
use Rattle.node.proofs.Pieces.{joined_good, message_good, with_once, without_once}
use Rattle.protocol.specs.Answers.{Answer, after}
use Rattle.protocol.specs.Laws.{IsNoMessage}
use Rattle.package_record.specs.Content.{Content}
use Rattle.protocol.specs.Member.{IsInput, IsOpen}
use Rattle.protocol.specs.State.{State, Value, facts_then}
use Rattle.protocol.specs.Step as members
use Rattle.protocol.specs.declared.input.Input.{Input}
use Rattle.protocol.specs.declared.input.Input.TheVariants as inputs
use Rattle.protocol.specs.declared.refusal.Refusal.{Refusal}
use Rattle.protocol.specs.declared.sends.Send.{Send}
use Rattle.engine.specs.Division.{number_named}
use Rattle.wire.specs.Joining.{bytes_of, is_numbered}
use Rattle.wire.specs.Messages.{IsGoodBody}
use Rattle.wire.specs.Pieces.{IsDatagram, split_of}
use Rattle.wire.specs.Reading.{datagram_of, joined}
use Rattle.wire.specs.Spelling.{datagram_text}
use Rattle.wire.specs.declared.WireFault.{WireFault}
use Rattle.wire.specs.declared.datagram.Datagram.{Datagram}
use Rattle.wire.specs.declared.datagram.Datagram.TheVariants as datagrams
use Rattle.wire.specs.declared.datagram.Header.{Header}
use Rattle.wire.specs.declared.datagram.Piece.{Piece}
use Rattle.wire.proofs.Cutting.{split_good}
use Rattle.wire.proofs.DatagramTexts.{datagram_again}
use Rattle.world.specs.Happening.{Acts, Happens, Steps, StopsIn}
use Rattle.one_list.specs.Safety.{EachIsOfAMessage, WasSentOf}
use Rattle.world.specs.Sent.{WasSent, with_sends}
use Rattle.world.specs.World.{IsMade, World, WorldNode, down_node, member_at, node_at, up_node, with_node}
use Rattle.node.specs.Step as steps
use Rattle.one_list.specs.Local.{AreKept, AreLocal, IsLocal, IsOfUnit, members_noted}
use Rattle.one_list.proofs.nodes.StepsInTheory.{never_ok, ok, ok_same, taken_is}
use Rattle.one_list.proofs.acts.StopsInDeliveries.{heard_is}
use Rattle.one_list.proofs.sent.NothingForeign.{get_contains}
use Rattle.one_list.proofs.sent.MessageHeaders as read
use Rattle.one_list.proofs.nodes.StopsAndRestarts.{all_but_one, cut_keeps, no_pieces, restart_keeps, stop_keeps}
use Rattle.one_list.proofs.acts.MembersLeft.{LeavesSound, input_sound, message_sound, nothing_sound}
use Rattle.one_list.proofs.nodes.NodesAsMembers.{facts_more, node_is_member}
use Rattle.one_list.proofs.nodes.WritableStates.{in_range, known_named}
use Rattle.one_list.proofs.matching.SpokenMessages.{sent_more}

-- ---- the pieces that a node keeps

-- The pieces satisfy their invariant, if these datagrams were sent.
abbrev IsKeptBy : List Text → List Piece → Type 0
IsKeptBy sent pieces =
    All (λ p. (m : Message Value) × WasSentOf sent m p) pieces
    × AllPairs (λ p q. is_numbered q.header q.number p ≡ false) pieces

-- What arrives: pieces that satisfy their invariant, and a message of which all datagrams were
-- sent.
abbrev IsGoodArrival : List Text → Arrival → Type 0
IsGoodArrival sent (Strange f pieces) = Unit {0}
IsGoodArrival sent (Waits pieces) = IsKeptBy sent pieces
IsGoodArrival sent (Whole m pieces) = IsKeptBy sent pieces × IsGoodBody m.path m.body

module _ (sent : List Text) (pieces : List Piece) (kept : IsKeptBy sent pieces) where
  all_arrive : (h : Header) (r : Result (Message Value) WireFault)
      → ((m : Message Value) → r ≡ Ok m → IsGoodBody m.path m.body)
      → IsGoodArrival sent (arrival_of_all (without h pieces) r)
  all_arrive h (Ok m) good = (
    (
      All-filter _ (λ p. (m : Message Value) × WasSentOf sent m p) pieces kept.0,
      without_once h
          pieces kept.1,
    ),
    good m refl,
  )
  all_arrive h (Err f) good = tt

  new_arrives : (p : Piece) (m : Message Value) → WasSentOf sent m p
      → has_number p.header pieces p.number ≡ false → IsGoodArrival sent (arrival_of_new pieces p)
  new_arrives p m was new =
      cond_both (are_all p.header (with_piece pieces p))
      (arrival_of_all (without p.header pieces)
      (joined p.header (bytes_of p.header (with_piece pieces p)))) (Waits (with_piece pieces p))
      (IsGoodArrival sent)
      (λ all. all_arrive p.header (joined p.header (bytes_of p.header (with_piece pieces p)))
      (λ n e. joined_good p.header (bytes_of p.header (with_piece pieces p)) n
      (All-contains IsDatagram (split_of m) (datagrams.Piece p)
      (split_good m was.is_sent.is_message) was.piece).header e))
      (λ waits. (
        All-append (λ p. (m : Message Value) × WasSentOf sent m p) pieces (p ∷ []) kept.0
            (All-cons (λ p. (m : Message Value) × WasSentOf sent m p) p [] (m, was)
            (All-nil (λ p. (m : Message Value) × WasSentOf sent m p))),
        with_once pieces p kept.1 new,
      ))

  piece_arrives : (p : Piece) (m : Message Value) → WasSentOf sent m p → (r : Option Refusal)
      → IsGoodArrival sent (arrival_of_piece pieces p r)
  piece_arrives p m was (Some r) = tt
  piece_arrives p m was None =
      cond_both (has_number p.header pieces p.number) (Waits pieces) (arrival_of_new pieces p)
      (IsGoodArrival sent) (λ there. kept) (λ new. new_arrives p m was new)

  datagram_arrives : (s : State) (d : Datagram) (m : Message Value) → WasSent sent m
      → Contains (split_of m) d → IsGoodArrival sent (arrival_of s pieces (read.ok d))
  datagram_arrives s (datagrams.Whole n) m was there = (
    kept,
    message_good n.path n.body (All-contains IsDatagram (split_of m) (datagrams.Whole n)
        (split_good m was.is_message) there).0.body,
  )
  datagram_arrives s (datagrams.Piece p) m was there =
      piece_arrives p m (record { is_sent = was; piece = there }) (refusal_of s p.header)

-- what was sent arrives like that
text_arrives : (w : World) (s : State) (pieces : List Piece) → AreKept w pieces → EachIsOfAMessage w
    → (text : Text) → Contains w.sent text
    → IsGoodArrival w.sent (arrival_of s pieces (datagram_of text))
text_arrives w s pieces kept each text h =
    let o = each text h in
    let d = (o.2).0 in
    let there : Contains (split_of o.0) d = (o.2).1 in
    let is : text ≡ datagram_text d = (o.2).2 in
    let again : datagram_of text ≡ read.ok d =
    ap datagram_of is ∙ datagram_again d (All-contains IsDatagram (split_of o.0) d
    (split_good o.0 o.1.is_message) there) in
    subst (λ r. IsGoodArrival w.sent (arrival_of s pieces r)) (sym again)
    (datagram_arrives w.sent pieces (kept.sent, kept.once) s d o.0 o.1 there)

-- ---- the effect of a step on its node

-- The effect of a step on its node.
record IsSoundStep (w : World) (k : ℕ) (x : WorldNode) (t : Taken) : Type 0 where
  answer : LeavesSound (member_at w k x) t.answer
  pieces : IsKeptBy w.sent t.pieces

module _ (w : World) (made : IsMade w.division w.weights) (local : AreLocal w)
    (each : EachIsOfAMessage w) where
  module _ (k : ℕ) (x : WorldNode) (stands : slice_get w.nodes k ≡ Some x) (t : Taken) where
    abbrev s : State
    s = member_at w k x

    kept : AreKept w x.pieces
    kept = (local.each k x stands).pieces

    does_sound : (letter : Letter) (input : Input) → IsNoMessage input → IsInput input
        → members.IsLetterOf s (members.unit_claimed s input) letter
        → ok t ≡ taken x.pieces (members.answer s letter input) → IsSoundStep w k x t
    does_sound letter input none can shown e = record {
      answer = input_sound s (node_is_member w made local k x stands)
          (in_range w made local k x stands) (known_named w made local k x stands) letter input
          t.answer
          none can shown (taken_is x.pieces (members.answer s letter input) t e);
      pieces = subst (IsKeptBy w.sent) (sym (pieces_stay (members.answer s letter input) e))
          (kept.sent, kept.once);
    }
      where
        pieces_stay : (r : Result Answer Refusal) → ok t ≡ taken x.pieces r → t.pieces ≡ x.pieces
        pieces_stay (Ok a) e =
            ap (λ (z : Taken). z.pieces) (ok_same t (record { answer = a; pieces = x.pieces }) e)
        pieces_stay (Err r) e = absurd (never_ok t _ e)

    comes_sound : (letter : Letter) (a : Arrival) → IsGoodArrival w.sent a → ok t ≡ step_on s a
        → IsSoundStep w k x t
    comes_sound letter (Strange f pieces) good e = absurd (never_ok t _ e)
    comes_sound letter (Waits pieces) good e =
        let same = ok_same t (record { answer = nothing s; pieces = pieces }) e in record {
          answer = subst (λ (z : Taken). LeavesSound s z.answer) (sym same)
              (nothing_sound s (node_is_member w made local k x stands)
              (in_range w made local k x stands) (known_named w made local k x stands));
          pieces = subst (λ (z : Taken). IsKeptBy w.sent z.pieces) (sym same) good;
        }
    comes_sound letter (Whole m pieces) good e = record {
      answer = message_sound s (node_is_member w made local k x stands)
          (in_range w made local k x stands) (known_named w made local k x stands) letter m t.answer
          good.1 (heard_is pieces (members.heard s m) t e);
      pieces = subst (IsKeptBy w.sent) (sym (pieces_then (members.heard s m) e)) good.0;
    }
      where
        pieces_then : (r : Result Answer Refusal) → ok t ≡ heard pieces r → t.pieces ≡ pieces
        pieces_then (Ok a) e =
            ap (λ (z : Taken). z.pieces) (ok_same t (record { answer = a; pieces = pieces }) e)
        pieces_then (Err r) e = absurd (never_ok t _ e)

  -- an input that is asked
  input_acts : (k : ℕ) (x : WorldNode) (t : Taken) (input : Input) (asked : Asked)
      → asked ≡ Does input → IsNoMessage input → IsAsked asked
      → slice_get w.nodes k ≡ Some x → Takes (node_at w k x) asked (Ok t) → IsSoundStep w k x t
  input_acts k x t input asked is none can stands takes =
      does_sound k x stands t takes.letter input none (subst IsAsked is can)
      (subst (λ a. members.IsLetterOf (member_at w k x) (steps.unit_asked (node_at w k x) a)
      takes.letter) is takes.shown)
      (takes.right_is ∙ ap (running_step (member_at w k x) x.pieces takes.letter) is)

  -- whatever the event asks
  act_sound : (e : Event) (x : WorldNode) (t : Taken) → is_step e ≡ true → Acts w e x t
      → IsSoundStep w (events.node_of e) x t
  act_sound (events.Claim n path host above) x t step acts = input_acts n x t
      (inputs.Claim path host above) acts.asked acts.asks tt acts.can_be acts.is_up.stands
      acts.takes
  act_sound (events.Built n path files) x t step acts = input_acts n x t (inputs.Built path files)
      acts.asked acts.asks tt acts.can_be acts.is_up.stands acts.takes
  act_sound (events.Failed n path) x t step acts = input_acts n x t (inputs.Failed path) acts.asked
      acts.asks tt acts.can_be acts.is_up.stands acts.takes
  act_sound (events.Nudge n) x t step acts = input_acts n x t inputs.Nudge acts.asked acts.asks tt
      acts.can_be acts.is_up.stands acts.takes
  act_sound (events.Ask n path) x t step acts = input_acts n x t (inputs.Ask path) acts.asked
      acts.asks tt acts.can_be acts.is_up.stands acts.takes
  act_sound (events.Deliver d n) x t step acts =
      let text = acts.asks.0 in
      comes_sound n x acts.is_up.stands t acts.takes.letter
      (arrival_of (member_at w n x) x.pieces (datagram_of text))
      (text_arrives w (member_at w n x) x.pieces (local.each n x acts.is_up.stands).pieces each text
      (get_contains w.sent d text acts.asks.1))
      (acts.takes.right_is ∙ ap (running_step (member_at w n x) x.pieces acts.takes.letter)
      acts.asks.2)
  act_sound (events.Stop n) x t step acts = absurd (true≢false (sym step))
  act_sound (events.StopIn e l) x t step acts = absurd (true≢false (sym step))
  act_sound (events.Restart n) x t step acts = absurd (true≢false (sym step))

  -- ---- the effect on the world

  -- the notes of a node satisfy the invariant after one more note, if there is one
  notes_so : (k : ℕ) (x : WorldNode) (a : Answer) (v : World) → v.division ≡ w.division
      → v.weights ≡ w.weights → slice_get w.nodes k ≡ Some x
      → LeavesSound (member_at w k x) a → All (IsOfUnit v) (with_note x.notes a.note)
  notes_so k x a v division weights stands sound = by a.note refl
    where
      moves : (n : Note Value) → IsOfUnit w n → IsOfUnit v n
      moves n o = record {
        note = o.note;
        unit = o.unit;
        of_unit = ap (λ d. number_named d n.path) division ∙ o.of_unit;
        claimers =
            subst (λ ws. All (λ k. k < length ws) (members_noted n.fact)) (sym weights) o.claimers;
      }

      olds : All (IsOfUnit v) x.notes
      olds = All-weaker (IsOfUnit w) (IsOfUnit v) moves x.notes (local.each k x stands).notes

      by : (o : Option (Note Value)) → a.note ≡ o → All (IsOfUnit v) (with_note x.notes o)
      by None e = olds
      by (Some n) e =
          let is = sound.note n e in
          All-append (IsOfUnit v) x.notes (n ∷ []) olds
          (All-cons (IsOfUnit v) n [] (moves n
          (record {
            note = is.note;
            unit = is.of_unit.0;
            of_unit = is.of_unit.1;
            claimers =
                is.claimers;
          })) (All-nil (IsOfUnit v)))

  -- what was sent stays sent
  more_sent : (sends : List Send) (pieces : List Piece)
      → All (λ p. (m : Message Value) × WasSentOf w.sent m p) pieces
      → All (λ p. (m : Message Value) × WasSentOf (with_sends w.sent sends) m p) pieces
  more_sent sends pieces are =
      All-weaker (λ p. (m : Message Value) × WasSentOf w.sent m p)
      (λ p. (m : Message Value) × WasSentOf (with_sends w.sent sends) m p)
      (λ p o. (o.0, record { is_sent = sent_more w.sent sends o.0 o.1.is_sent; piece = o.1.piece }))
      pieces are

  -- a node stays valid if another node is replaced and more is sent
  others_so : (nodes : List WorldNode) (sends : List Send) (agreed : List Content) (j : ℕ)
      (z : WorldNode) → IsLocal w j z
      → IsLocal (record w { nodes = nodes; sent = with_sends w.sent sends; agreed = agreed }) j z
  others_so nodes sends agreed j z l = record {
    notes = All-weaker (IsOfUnit w) (IsOfUnit
        (record w { nodes = nodes; sent = with_sends w.sent sends; agreed = agreed }))
        (λ n o. record { note = o.note; unit = o.unit; of_unit = o.of_unit; claimers = o.claimers })
        z.notes l.notes;
    claim = λ o e. let c = l.claim o e in record { is_open = c.is_open; progress = c.progress };
    pieces = record { sent = more_sent sends z.pieces l.pieces.sent; once = l.pieces.once };
    down = l.down;
    up = l.up;
  }

  -- the node that took the step
  stepped_so : (k : ℕ) (x : WorldNode) (t : Taken) (nodes : List WorldNode) (agreed : List Content)
      → slice_get w.nodes k ≡ Some x → IsSoundStep w k x t
      → IsLocal (record
      w { nodes = nodes; sent = with_sends w.sent t.answer.sends; agreed = agreed }) k
      (up_node (steps.after (node_at w k x) t))
  stepped_so k x t nodes agreed stands sound = record {
    notes = notes_so k x t.answer (record
        w { nodes = nodes; sent = with_sends w.sent t.answer.sends; agreed = agreed }) refl refl
        stands sound.answer;
    claim = λ o e. record {
      is_open = subst (λ s. IsOpen s o) same (sound.answer.member.claim o e);
      progress = sound.answer.claim o e;
    };
    pieces = record {
      sent = more_sent t.answer.sends t.pieces sound.pieces.0;
      once = sound.pieces.1;
    };
    down = λ e. absurd (true≢false e);
    up = λ e. refl;
  }
    where
      facts : (member_at w k (up_node (steps.after (node_at w k x) t))).facts ≡ facts_then
          w.division (member_at w k x).facts t.answer.note
      facts = facts_more w k x (up_node (steps.after (node_at w k x) t)) t.answer.note refl

      same : after (member_at w k x) t.answer ≡ member_at w k
          (up_node (steps.after (node_at w k x) t))
      same = ap (λ (fs : List (Facts Value)).
          record (member_at w k x) { facts = fs; claim = t.answer.claim }) (sym facts)

  step_keeps : (e : Event) (v : World) → is_step e ≡ true → Steps w e v → AreLocal v
  step_keeps e v step s = subst AreLocal (sym s.leaves) (record {
    each = λ j z g. ⊎_elim
        (λ h. subst (λ (i : ℕ). IsLocal then i z) (sym h.0)
        (subst (IsLocal then (events.node_of e)) (sym h.1)
        (stepped_so (events.node_of e) s.node s.taken nodes v.agreed s.acts.is_up.stands
        (act_sound e s.node s.taken step s.acts))))
        (λ h. others_so nodes s.taken.answer.sends v.agreed j z (local.each j z h.1))
        (get_set w.nodes (events.node_of e) j
        (up_node (steps.after (node_at w (events.node_of e) s.node) s.taken)) z g);
    one_for_each = length-set w.nodes (events.node_of e)
        (up_node (steps.after (node_at w (events.node_of e) s.node) s.taken)) ∙ local.one_for_each;
  })
    where
      nodes : List WorldNode
      nodes = slice_set w.nodes (events.node_of e)
          (up_node (steps.after (node_at w (events.node_of e) s.node) s.taken))

      then : World
      then = record w {
        nodes = nodes;
        sent = with_sends w.sent s.taken.answer.sends;
        agreed =
            v.agreed;
      }

  -- a stop inside a step that leaves its whole note
  whole_keeps : (e : Event) (v : World) → StopsIn w e left.Whole v → AreLocal v
  whole_keeps e v s =
      let sound = act_sound e s.node s.taken s.step s.acts in
      let y = down_node (with_note s.node.notes s.taken.answer.note) [] in
      subst AreLocal (sym s.leaves) (all_but_one w (events.node_of e) y local (record {
        notes = notes_so (events.node_of e) s.node s.taken.answer (with_node w (events.node_of e) y)
            refl refl s.acts.is_up.stands sound.answer;
        claim = λ o e. absurd (let no : None ≡ Some o = e in cc);
        pieces = no_pieces w (events.node_of e) y;
        down = λ e. (refl, refl);
        up = λ e. absurd (true≢false (sym e));
      }))

  -- Whatever happens, each node satisfies the invariant.
  pub event_keeps : (e : Event) (v : World) → Happens w e v → AreLocal v
  event_keeps (events.Claim n path host above) v h =
      step_keeps (events.Claim n path host above) v refl h
  event_keeps (events.Built n path files) v h = step_keeps (events.Built n path files) v refl h
  event_keeps (events.Failed n path) v h = step_keeps (events.Failed n path) v refl h
  event_keeps (events.Nudge n) v h = step_keeps (events.Nudge n) v refl h
  event_keeps (events.Ask n path) v h = step_keeps (events.Ask n path) v refl h
  event_keeps (events.Deliver d n) v h = step_keeps (events.Deliver d n) v refl h
  event_keeps (events.Stop n) v h = stop_keeps w v n local h
  event_keeps (events.StopIn e left.None) v h = cut_keeps w v e left.None local (λ no. absurd cc) h
  event_keeps (events.StopIn e (left.Torn bytes)) v h =
      cut_keeps w v e (left.Torn bytes) local (λ no. absurd cc) h
  event_keeps (events.StopIn e left.Whole) v h = whole_keeps e v h
  event_keeps (events.Restart n) v h = restart_keeps w v n local h
