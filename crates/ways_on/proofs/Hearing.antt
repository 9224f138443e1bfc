-- A node that is up receives what was sent.
use Rattle.std.proofs.Common.{◌≡◌, ℕ, true, false, List, [], ◌∷◌, length, Option, None, Some, Result, Ok, Err, slice_get, slice_set, refl, sym, ap, ◌∙◌, inl, inr, ⊎_elim}
use Rattle.std.specs.Prelude.{All}
use Rattle.std.proofs.lemmas.Bool.{lt-leb}
use Rattle.claims.specs.Nodes as nodes
use Rattle.claims.specs.Quorums.{is_majority}
use Rattle.claims.specs.Step as theory
use Rattle.ballots.specs.InTheAgreement.{said}
use Rattle.ballots.specs.declared.message.Message.{Message}
use Rattle.engine.specs.declared.Letter.TheVariants.{Q}
use Rattle.protocol.specs.Events as events
use Rattle.protocol.specs.Events.{Event}
use Rattle.faults.specs.Bytes.{Text}
use Rattle.node.specs.Arrival.{arrival_of}
use Rattle.node.specs.Ranges.{CanBeWritten}
use Rattle.node.specs.Step.{Comes, Taken, after, heard, step_on}
use Rattle.node.proofs.Pieces.{message_good}
use Rattle.node.proofs.ranges.Written.{answers_written}
use Rattle.package_record.specs.Content.{Content}
use Rattle.package_record.proofs.BuildsRead.{build_is_read}
use Rattle.protocol.specs.Answers.{Answer}
use Rattle.protocol.specs.Laws.{AnswersMessage}
use Rattle.protocol.specs.State.{State, Value, facts_at}
use Rattle.protocol.specs.Step as members
use Rattle.protocol.specs.Step.{at_unit, header_refusal, hears, members_of, outcome_of, unless}
use Rattle.protocol.specs.declared.input.Input.TheVariants as inputs
use Rattle.protocol.specs.declared.refusal.Refusal.{Refusal}
use Rattle.protocol.specs.declared.refusal.Refusal.TheVariants as refusals
use Rattle.protocol.specs.declared.sends.Send.{Send}
use Rattle.engine.specs.Division.{Division, number_named}
use Rattle.ways_on.specs.Ways.{LeadsTo}
use Rattle.ways_on.proofs.Reached.{IsReached, goes, its_acts, its_local, its_match, its_own, none_before, reached_then}
use Rattle.wire.specs.Messages.{IsMessage}
use Rattle.wire.specs.Pieces.{IsDatagram}
use Rattle.wire.specs.Reading.{datagram_of}
use Rattle.wire.specs.Spelling.{datagram_text}
use Rattle.wire.specs.declared.datagram.Datagram.TheVariants as datagrams
use Rattle.wire.specs.declared.datagram.Piece.{Piece}
use Rattle.wire.proofs.DatagramTexts.{datagram_again}
use Rattle.world.specs.Happening.{Acts, lacks_datagram, stepped, up_of}
use Rattle.world.specs.Sent.{WasSent, with_sends}
use Rattle.world.specs.World.{IsMade, World, WorldNode, member_at, node_at, up_node}
use Rattle.one_list.specs.Matches.{node_of}
use Rattle.one_list.specs.Mirrored.{after_all_acts}
use Rattle.one_list.proofs.nodes.StepsInTheory.{answers_with, never_ok, ok_same}
use Rattle.one_list.proofs.matching.CutSteps.{made_here}
use Rattle.one_list.proofs.acts.StopsInDeliveries.{delivered, heard_is, place, theirs}
use Rattle.one_list.proofs.sent.NothingForeign.{answered}
use Rattle.one_list.proofs.nodes.NodesAsMembers.{facts_there, get_within, node_is_member}
use Rattle.one_list.proofs.nodes.WritableStates.{in_range}
use Rattle.one_list.proofs.matching.MemberSteps.{is_member}

abbrev refuses_with : Refusal → Result Answer Refusal
refuses_with f = Err f

-- a message that is answered leaves the pieces unchanged
pub pieces_stay : (pieces : List Piece) (r : Result Answer Refusal) (t : Taken)
    → heard pieces r ≡ Ok t → t.pieces ≡ pieces
pieces_stay pieces (Ok a) t e =
    sym (ap (λ (z : Taken). z.pieces) (ok_same (record { answer = a; pieces = pieces }) t e))
pieces_stay pieces (Err r) t e = absurd (never_ok t _ (sym e))

-- a member's answer to a message is its answer for the message's unit
just_heard : (s : State) (n : Message Value) (u : ℕ) (a : Answer)
    → number_named s.division n.path ≡ Some u → members.heard s n ≡ answers_with a
    → a ≡ hears s u n.sender n.body
just_heard s n u a named e =
    by (header_refusal s n.tree (n.sender ∷ members_of n.body) n.path) e
  where
    answer_same : (b c : Answer) → answers_with b ≡ answers_with c → b ≡ c
    answer_same b c h = cc

    never : (f : Refusal) → refuses_with f ≡ answers_with a → ⊥
    never f h = cc

    by : (o : Option Refusal)
        → unless o (at_unit refusals.Unlisted (λ u. Ok (hears s u n.sender n.body))
        (number_named s.division n.path)) ≡ answers_with a
        → a ≡ hears s u n.sender n.body
    by (Some f) h = absurd (never f h)
    by None h = answer_same a (hears s u n.sender n.body) (sym (sym (ap (at_unit refusals.Unlisted
        (λ u. answers_with (hears s u n.sender n.body))) named) ∙ h))

module _ (division : Division) (weights : List ℕ) (made : IsMade division weights) (w : World)
    (r : IsReached division weights made w) (k : ℕ) (x : WorldNode)
    (stands : slice_get w.nodes k ≡ Some x) (up : x.up ≡ true) where
  -- Node k, which was x, received the message, and nothing else happened.
  pub record HeardBy (n : Message Value) (kept : List Piece) (v : World) : Type 0 where
    pub reached : IsReached division weights made v
    pub division_is : v.division ≡ w.division
    pub weights_are : v.weights ≡ w.weights
    -- the node afterwards
    pub node : WorldNode
    pub nodes_are : v.nodes ≡ slice_set w.nodes k node
    pub is_on : node.up ≡ true
    pub pieces : node.pieces ≡ kept
    -- its answer
    pub answer : Answer
    pub claim_is : node.claim ≡ answer.claim
    pub answers : AnswersMessage (member_at w k x) n answer
    pub answer_is : answer ≡ hears (member_at w k x) answers.unit n.sender n.body
    pub written : All (λ (z : Send). IsMessage z.message) answer.sends
    pub sent : v.sent ≡ with_sends w.sent answer.sends
    -- for the message's unit, the node is the member of the outcome; of other units it knows what
    -- it knew
    pub here : nodes.view (node_of w k node) answers.unit
        ≡ (outcome_of (member_at w k x) answers.unit n.sender n.body).member
    pub there : (q : ℕ) → (q ≡ answers.unit → ⊥)
        → facts_at (member_at w k node) q ≡ facts_at (member_at w k x) q

  -- the delivery of the datagram with this number
  abbrev comes : ℕ → Event
  comes d = events.Deliver d k

  -- a datagram that is delivered was sent
  is_there : (d : ℕ) (text : Text) → slice_get w.sent d ≡ Some text
      → lacks_datagram w (comes d) ≡ false
  is_there d text e = lt-leb (length w.sent) d (get_within w.sent d text e)

  -- A step on a delivery happens, unless the log has no room for its note.
  pub comes_on : (P : World → Type 0) (d : ℕ) (text : Text) → slice_get w.sent d ≡ Some text
      → (t : Taken) → step_on (member_at w k x)
      (arrival_of (member_at w k x) x.pieces (datagram_of text)) ≡ Ok t
      → ((list : List Content) → IsReached division weights made (stepped w k x t list)
      → P (stepped w k x t list))
      → LeadsTo P w (comes d ∷ [])
  comes_on P d text e t is then = (
    ap up_of stands ∙ up,
    ⊎_elim
        (λ s. inl (
          stepped w k x t s.0,
          s.1,
          then s.0 (reached_then division weights made w
              (stepped w k x t s.0) (comes d) r s.1),
        ))
        (λ full. inr full)
        (goes division weights made w r (comes d) x t refl refl
        (none_before w (comes d) x refl refl stands up (is_there d text e)) acts),
  )
    where
      acts : Acts w (comes d) x t
      acts = record {
        is_up = record { stands = stands; up = up };
        asked = Comes text;
        asks = (text, e, refl);
        can_be = tt;
        takes = record { letter = Q; shown = tt; right_is = sym is };
      }

  -- a message that was sent, after it is complete
  module _ (n : Message Value) (is_sent : WasSent w.sent n) (pieces : List Piece) where
    abbrev pub their : (t : Taken) × (heard pieces (members.heard (member_at w k x) n) ≡ Ok t)
    their = answered division weights (its_acts division weights made w r) w made
        (its_own division weights made w r) (its_match division weights made w r) build_is_read k x
        pieces n is_sent

    answer_is : members.heard (member_at w k x) n ≡ answers_with (their.0).answer
    answer_is = heard_is pieces (members.heard (member_at w k x) n) their.0 (sym their.1)

    abbrev answers_it : AnswersMessage (member_at w k x) n (their.0).answer
    answers_it = theirs division weights (its_acts division weights made w r) w made
        (its_own division weights made w r) (its_local division weights made w r)
        (its_match division weights made w r) build_is_read k x stands up their.0 n is_sent
        answer_is

    made_there : IsMade w.division w.weights
    made_there = made_here division weights (its_acts division weights made w r) w made
        (its_own division weights made w r) (its_local division weights made w r)
        (its_match division weights made w r)

    is_written : CanBeWritten (member_at w k x) (their.0).answer
    is_written = answers_written (member_at w k x) Q (inputs.Message n) (their.0).answer
        (node_is_member w made_there (its_local division weights made w r) k x stands)
        (in_range w made_there (its_local division weights made w r) k x stands)
        (message_good n.path n.body is_sent.is_message.body) answer_is

    -- its index among what was said
    abbrev at : (i : ℕ) × (slice_get
        ((after_all_acts division weights (its_acts division weights made w r)).at
        answers_it.unit).sent i ≡ Some (said n.sender n.body))
    at = place division weights (its_acts division weights made w r) w made
        (its_own division weights made w r) (its_local division weights made w r)
        (its_match division weights made w r) build_is_read k x stands up their.0 n is_sent
        answer_is

    -- it is received
    pub heard_then : (kept : List Piece) → (their.0).pieces ≡ kept → (list : List Content)
        → IsReached division weights made (stepped w k x their.0 list)
        → HeardBy n kept (stepped w k x their.0 list)
    heard_then kept same list reached = record {
      reached = reached;
      division_is = refl;
      weights_are = refl;
      node = up_node (after (node_at w k x) their.0);
      nodes_are = refl;
      is_on = refl;
      pieces = same;
      answer = (their.0).answer;
      claim_is = refl;
      answers = answers_it;
      answer_is = just_heard (member_at w k x) n answers_it.unit (their.0).answer
          answers_it.named answer_is;
      written = is_written.sends;
      sent = refl;
      here = sym (is_member (is_majority weights) w made_there
          (after_all_acts division weights (its_acts division weights made w r))
          (its_match division weights made w r) k x stands up answers_it.unit answers_it.within
          (theory.Deliver at.0) (outcome_of (member_at w k x) answers_it.unit n.sender n.body)
          their.0 there answers_it.is);
      there = λ q ne. facts_there w k x (up_node (after (node_at w k x) their.0)) answers_it.unit
          (outcome_of (member_at w k x) answers_it.unit n.sender n.body) (their.0).answer
          answers_it.is refl q ne;
    }
      where
        there : theory.answer (is_majority weights) k (nodes.view (node_of w k x) answers_it.unit)
            ((after_all_acts division weights (its_acts division weights made w r)).at
            answers_it.unit).sent (theory.Deliver at.0)
            ≡ Some (outcome_of (member_at w k x) answers_it.unit n.sender n.body)
        there = delivered division weights (its_acts division weights made w r) w made
            (its_own division weights made w r) (its_local division weights made w r)
            (its_match division weights made w r) build_is_read k x stands up their.0 n is_sent
            answer_is

  -- A message in one datagram is received when that arrives, unless the log is full.
  pub whole_heard : (n : Message Value) → WasSent w.sent n → IsDatagram (datagrams.Whole n)
      → (d : ℕ) → slice_get w.sent d ≡ Some (datagram_text (datagrams.Whole n))
      → LeadsTo (HeardBy n x.pieces) w (comes d ∷ [])
  whole_heard n is_sent good d e =
      comes_on (HeardBy n x.pieces) d (datagram_text (datagrams.Whole n)) e (their n is_sent x.pieces).0
      (ap (λ a. step_on (member_at w k x) (arrival_of (member_at w k x) x.pieces a))
      (datagram_again (datagrams.Whole n) good) ∙ (their n is_sent x.pieces).1)
      (λ list reached. heard_then n is_sent x.pieces x.pieces
      (pieces_stay x.pieces (members.heard (member_at w k x) n) (their n is_sent x.pieces).0
      (their n is_sent x.pieces).1) list reached)
