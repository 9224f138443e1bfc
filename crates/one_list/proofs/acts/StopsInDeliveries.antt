-- A stop inside any step is a stop of the member.
use Rattle.std.proofs.Common.{◌≡◌, ◌⊎◌, ℕ, zero, suc, true, false, List, [], ◌∷◌, Some, Result, Ok, Err, option_map, slice_get, sym, ap, subst, ◌∙◌, inl, inr}
use Rattle.claims.specs.AgreedList.{Act, Cluster}
use Rattle.claims.specs.Nodes as nodes
use Rattle.claims.specs.Quorums.{is_majority}
use Rattle.claims.specs.Step as theory
use Rattle.claims.specs.Step.{Outcome, on_message}
use Rattle.claims.specs.Votes.{Has}
use Rattle.claims.specs.World as theory_world
use Rattle.claims.specs.World.{StopIn, Take}
use Rattle.claims.proofs.Majorities.{majorities}
use Rattle.ballots.specs.InTheAgreement.{said}
use Rattle.ballots.specs.declared.message.Message.{Message}
use Rattle.node.specs.Arrival.{Arrival, Strange, Waits, Whole, arrival_of}
use Rattle.protocol.specs.Events as events
use Rattle.protocol.specs.Events.{Event, is_step}
use Rattle.node.specs.State.{with_note}
use Rattle.node.specs.Step.{Taken, heard, nothing, running_step, step_on}
use Rattle.protocol.specs.declared.event.Left.{Left}
use Rattle.protocol.specs.declared.event.Left.TheVariants as left
use Rattle.package_record.specs.Laws.{BuildTextIsReadAgain}
use Rattle.protocol.specs.Answers.{Answer}
use Rattle.protocol.specs.InTheAgreement.{view}
use Rattle.protocol.specs.Laws.{AnswersMessage}
use Rattle.protocol.specs.State.{State, Value}
use Rattle.protocol.specs.Step as members
use Rattle.protocol.specs.Step.{outcome_of}
use Rattle.protocol.specs.declared.input.Input.TheVariants as inputs
use Rattle.protocol.specs.declared.refusal.Refusal.{Refusal}
use Rattle.protocol.proofs.Answering.{message_is}
use Rattle.engine.specs.Division.{Division, number_named}
use Rattle.engine.proofs.Names.{name_is_found}
use Rattle.wire.specs.Reading.{datagram_of}
use Rattle.wire.specs.declared.datagram.Piece.{Piece}
use Rattle.world.specs.Happening.{StopsIn}
use Rattle.world.specs.Sent.{WasSent}
use Rattle.world.specs.World.{IsMade, World, WorldNode, down_node, member_at, with_node}
use Rattle.one_list.specs.MatchingLaws.{IsOneActMore}
use Rattle.one_list.specs.Local.{AreLocal}
use Rattle.one_list.specs.Matches.{Matches, WasSaid, node_of}
use Rattle.one_list.specs.Mirrored.{after_all_acts, with_act}
use Rattle.one_list.specs.Needs.{may_build}
use Rattle.one_list.proofs.nodes.StepsInTheory.{answers_with, never_ok, ok, ok_same, same_view}
use Rattle.one_list.proofs.matching.CutSteps.{input_cut_is_act, made_here}
use Rattle.one_list.proofs.sent.NothingForeign.{IsWelcome, comes_welcome, get_contains}
use Rattle.one_list.proofs.nodes.EqualParts.{some_same}
use Rattle.one_list.proofs.sent.MessageHeaders.{divided, sent_was_said}
use Rattle.one_list.proofs.nodes.NodesAsMembers.{node_is_member}
use Rattle.one_list.proofs.matching.StopActs.{cut_is_act, goes_down, one_more, values_there}
use Rattle.one_list.proofs.matching.StopsInSteps.{cut_matches}

-- a message among those sent has an index
has_place : {X : Type 0} (xs : List X) (x : X) → Has xs x → (k : ℕ) × (slice_get xs k ≡ Some x)
has_place [] x h = absurd h
has_place (y ∷ ys) x (inl e) = (zero, ap (λ z. Some z) e)
has_place (y ∷ ys) x (inr h) = let r = has_place ys x h in (suc r.0, r.1)

-- the theory's events
abbrev stop_in : ℕ → theory.Input Value → theory_world.Event Value
stop_in k input = StopIn k input

abbrev takes : ℕ → theory.Input Value → theory_world.Event Value
takes k input = Take k input

-- neither a stop inside a step nor a delivery builds anything
no_build_in_stop : (k j : ℕ) (input : theory.Input Value) (b : Value)
    → stop_in k input ≡ takes j (theory.Built b) → ⊥
no_build_in_stop k j input b e = cc

pub no_build_in_delivery : (k j i : ℕ) (b : Value)
    → takes k (theory.Deliver i) ≡ takes j (theory.Built b) → ⊥
no_build_in_delivery k j i b e = cc

-- a step taken on a message is the member's answer
pub heard_is : (pieces : List Piece) (r : Result Answer Refusal) (t : Taken) → ok t ≡ heard pieces r
    → r ≡ answers_with t.answer
heard_is pieces (Ok a) t e = ap (λ (z : Taken). answers_with z.answer)
    (sym (ok_same t (record { answer = a; pieces = pieces }) e))
heard_is pieces (Err r) t e = absurd (never_ok t _ e)

module _ (division : Division) (weights : List ℕ) (acts : List (Act Value)) (w : World)
    (made : IsMade division weights)
    (of : (w.division ≡ division) × (w.weights ≡ weights)) (local : AreLocal w)
    (m : Matches w (after_all_acts division weights acts))
    (again : BuildTextIsReadAgain) where
  -- the cluster after the acts
  abbrev here : Cluster Value
  here = after_all_acts division weights acts

  module _ (k : ℕ) (x : WorldNode) (stands : slice_get w.nodes k ≡ Some x) (up : x.up ≡ true)
      (t : Taken) where
    abbrev s : State
    s = member_at w k x

    -- Nothing was done, except that pieces were kept; or the member answered a message that was
    -- sent.
    abbrev IsAnswered : Type 0
    IsAnswered = (t.answer ≡ nothing s)
        ⊎ ((n : Message Value) × WasSent w.sent n × (members.heard s n ≡ answers_with t.answer))

    pub by_arrival : (a : Arrival) → IsWelcome w a → ok t ≡ step_on s a → IsAnswered
    by_arrival (Strange f pieces) welcome e = absurd welcome
    by_arrival (Waits pieces) welcome e = inl
        (ap (λ (z : Taken). z.answer) (ok_same t (record { answer = nothing s; pieces = pieces })
        e))
    by_arrival (Whole n pieces) is_sent e =
        inr (n, is_sent, heard_is pieces (members.heard s n) t e)

    -- a message that was answered is received by the member in the theory
    module _ (n : Message Value) (is_sent : WasSent w.sent n)
        (e : members.heard s n ≡ answers_with t.answer) where
      pub theirs : AnswersMessage s n t.answer
      theirs = message_is s n t.answer (node_is_member w
          (made_here division weights acts w made of local m) local k x stands) e

      was : WasSaid w here n
      was = sent_was_said division weights acts w made of m again n is_sent

      one_unit : was.unit ≡ theirs.unit
      one_unit = some_same was.unit theirs.unit
          (sym (name_is_found w.division was.unit (divided division weights acts w made of m)
          was.listed)
          ∙ ap (number_named w.division) (sym was.about) ∙ theirs.named)

      pub place : (i : ℕ) × (slice_get (here.at theirs.unit).sent i ≡ Some (said n.sender n.body))
      place = has_place (here.at theirs.unit).sent (said n.sender n.body)
          (subst (λ (u : ℕ). Has (here.at u).sent (said n.sender n.body)) one_unit was.said_there)

      pub delivered : theory.answer (is_majority weights) k (nodes.view (node_of w k x) theirs.unit)
          (here.at theirs.unit).sent (theory.Deliver place.0)
          ≡ Some (outcome_of s theirs.unit n.sender n.body)
      delivered =
          ap (option_map
          (on_message (is_majority weights) k (nodes.view (node_of w k x) theirs.unit))) place.1
          ∙ ap (λ y. Some (on_message (is_majority weights) k y (said n.sender n.body)))
          (same_view w k x theirs.unit up)
          ∙ ap (λ ws. Some
          (on_message (is_majority ws) k (view (member_at w k x) theirs.unit)
          (said n.sender n.body))) (sym of.1)

      abbrev act : Act Value
      act = record { path = theirs.unit; event = StopIn k (theory.Deliver place.0) }

      -- so a stop inside that step is a stop of the member
      pub message_cut : (e : Event) (v : World)
          → v ≡ with_node w k (down_node (with_note x.notes t.answer.note) [])
          → IsOneActMore division weights acts w e v
      message_cut e v leaves = (
        Some act,
        (λ j b built. absurd (no_build_in_stop k j (theory.Deliver place.0) b built)),
        subst (λ z. Matches z (after_all_acts division weights (with_act acts (Some act))))
            (sym leaves)
            (subst (Matches (with_node w k (down_node (with_note x.notes t.answer.note) [])))
            (sym (one_more division weights acts w m act))
            (cut_matches (is_majority weights) (majorities weights) (may_build division) w
            (made_here division weights acts w made of local m) here m
            (values_there division weights acts w m) k x stands up theirs.unit theirs.within
            (theory.Deliver place.0)
            (outcome_of s theirs.unit n.sender n.body) t.answer delivered theirs.is)),
      )

    -- the stop, for either case of the delivery
    pub deliver_cut : (e : Event) (v : World) → IsAnswered
        → v ≡ with_node w k (down_node (with_note x.notes t.answer.note) [])
        → IsOneActMore division weights acts w e v
    deliver_cut e v (inl none) leaves =
        goes_down division weights acts w m e k x [] stands up v
        (leaves ∙ ap (λ (a : Answer). with_node w k (down_node (with_note x.notes a.note) [])) none)
    deliver_cut e v (inr (n, is_sent, h)) leaves = message_cut n is_sent h e v leaves

  -- A stop inside any step is a stop of the member.
  pub stop_inside_is_act : (e : Event) (l : Left) (v : World) → StopsIn w e l v
      → IsOneActMore division weights acts w (events.StopIn e l) v
  stop_inside_is_act e left.None v s =
      cut_is_act division weights acts w m e left.None v (λ h. no_whole h) s
    where
      no_whole : left.None ≡ left.Whole → ⊥
      no_whole h = cc
  stop_inside_is_act e (left.Torn bytes) v s =
      cut_is_act division weights acts w m e (left.Torn bytes) v (λ h. no_whole h) s
    where
      no_whole : left.Torn bytes ≡ left.Whole → ⊥
      no_whole h = cc
  stop_inside_is_act (events.Claim n path host above) left.Whole v s =
      input_cut_is_act division weights acts w made of local m (events.Claim n path host above) v
      (inputs.Claim path host above) (λ a h. h) tt s
  stop_inside_is_act (events.Built n path packages) left.Whole v s =
      input_cut_is_act division weights acts w made of local m (events.Built n path packages) v
      (inputs.Built path packages) (λ a h. h) tt s
  stop_inside_is_act (events.Failed n path) left.Whole v s =
      input_cut_is_act division weights acts w made of local m (events.Failed n path) v
      (inputs.Failed path) (λ a h. h) tt s
  stop_inside_is_act (events.Nudge n) left.Whole v s =
      input_cut_is_act division weights acts w made of local m (events.Nudge n) v inputs.Nudge
      (λ a h. h) tt s
  stop_inside_is_act (events.Ask n path) left.Whole v s =
      input_cut_is_act division weights acts w made of local m (events.Ask n path) v
      (inputs.Ask path) (λ a h. h) tt s
  stop_inside_is_act (events.Deliver d n) left.Whole v s =
      let text = s.acts.asks.0 in
      let there = get_contains w.sent d text s.acts.asks.1 in
      let kept = (local.each n s.node s.acts.is_up.stands).pieces in
      deliver_cut n s.node s.acts.is_up.stands s.acts.is_up.up s.taken
      (events.StopIn (events.Deliver d n) left.Whole) v
      (by_arrival n s.node s.acts.is_up.stands s.acts.is_up.up s.taken
      (arrival_of (member_at w n s.node) s.node.pieces (datagram_of text))
      (comes_welcome division weights acts w made of m again n s.node s.node.pieces kept text there)
      (s.acts.takes.right_is ∙ ap (running_step (member_at w n s.node) s.node.pieces
      s.acts.takes.letter) s.acts.asks.2))
      s.leaves
  stop_inside_is_act (events.Stop n) left.Whole v s =
      absurd (let wrong : false ≡ true = s.step in cc)
  stop_inside_is_act (events.StopIn e l) left.Whole v s =
      absurd (let wrong : false ≡ true = s.step in cc)
  stop_inside_is_act (events.Restart n) left.Whole v s =
      absurd (let wrong : false ≡ true = s.step in cc)
