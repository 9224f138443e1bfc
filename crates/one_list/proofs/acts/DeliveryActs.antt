-- Each delivery is one act or none.
use Rattle.std.proofs.Common.{◌≡◌, ◌⊎◌, ℕ, List, Some, slice_get, refl, ap, ◌∙◌, ⊎_elim, inl, inr}
use Rattle.claims.specs.AgreedList.{Act}
use Rattle.claims.specs.Quorums.{is_majority}
use Rattle.claims.specs.Step as theory
use Rattle.ballots.specs.InTheAgreement.{said}
use Rattle.ballots.specs.declared.message.Message.{Message}
use Rattle.node.specs.Arrival.{arrival_of}
use Rattle.protocol.specs.Events as events
use Rattle.node.specs.Ranges.{CanBeWritten}
use Rattle.node.specs.Step.{nothing, running_step}
use Rattle.node.proofs.Pieces.{message_good}
use Rattle.node.proofs.ranges.Written.{answers_written}
use Rattle.package_record.specs.Laws.{BuildTextIsReadAgain}
use Rattle.protocol.specs.InTheAgreement.{view}
use Rattle.protocol.specs.Laws.{AnswersMessage}
use Rattle.protocol.specs.Member.{IsMember}
use Rattle.protocol.specs.State.{State, Value}
use Rattle.protocol.specs.Step as members
use Rattle.protocol.specs.Step.{outcome_of}
use Rattle.protocol.specs.declared.input.Input.TheVariants as inputs
use Rattle.engine.specs.Division.{Division}
use Rattle.wire.specs.Reading.{datagram_of}
use Rattle.world.specs.Sent.{WasSent}
use Rattle.world.specs.World.{IsMade, World, member_at}
use Rattle.one_list.specs.Local.{AreLocal}
use Rattle.one_list.specs.Matches.{Matches}
use Rattle.one_list.specs.Mirrored.{after_all_acts}
use Rattle.one_list.proofs.nodes.StepsInTheory.{answers_with}
use Rattle.one_list.proofs.matching.CutSteps.{made_here}
use Rattle.one_list.proofs.acts.StopsInDeliveries.{by_arrival, delivered, no_build_in_delivery, place, theirs}
use Rattle.one_list.proofs.acts.StepActs.{Acted, IsAct, IsDone, no_other}
use Rattle.one_list.proofs.sent.NothingForeign.{comes_welcome, get_contains}
use Rattle.one_list.proofs.nodes.NodesAsMembers.{node_is_member}
use Rattle.one_list.proofs.nodes.ClaimsNamed.{body_comes, message_names}
use Rattle.one_list.proofs.nodes.OpenClaims.{message_opens_none}
use Rattle.one_list.proofs.nodes.WritableStates.{heard_names, in_range, known_named, own_stage}

module _ (division : Division) (weights : List ℕ) (acts : List (Act Value)) (w : World)
    (made : IsMade division weights)
    (of : (w.division ≡ division) × (w.weights ≡ weights)) (local : AreLocal w)
    (m : Matches w (after_all_acts division weights acts))
    (again : BuildTextIsReadAgain) (d n : ℕ) (s : Acted w (events.Deliver d n)) where
  -- the member
  abbrev member : State
  member = member_at w n s.node

  its_made : IsMade w.division w.weights
  its_made = made_here division weights acts w made of local m

  is_member : IsMember member
  is_member = node_is_member w its_made local n s.node s.acts.is_up.stands

  -- a message that was sent is answered
  module _ (x : Message Value) (is_sent : WasSent w.sent x)
      (e : members.heard member x ≡ answers_with s.taken.answer) where
    abbrev answer : AnswersMessage member x s.taken.answer
    answer = theirs division weights acts w made of local m again n s.node s.acts.is_up.stands
        s.acts.is_up.up s.taken x is_sent e

    abbrev at : (i : ℕ) × (slice_get ((after_all_acts division weights acts).at answer.unit).sent i
        ≡ Some (said x.sender x.body))
    at = place division weights acts w made of local m again n s.node s.acts.is_up.stands
        s.acts.is_up.up s.taken x is_sent e

    written : CanBeWritten member s.taken.answer
    written = answers_written member s.acts.takes.letter (inputs.Message x) s.taken.answer is_member
        (in_range w its_made local n s.node s.acts.is_up.stands)
        (message_good x.path x.body is_sent.is_message.body) e

    abbrev done : IsDone division weights acts w made of local m again (events.Deliver d n) s
    done = record {
      unit = answer.unit;
      within = answer.within;
      input = theory.Deliver at.0;
      outcome = outcome_of member answer.unit x.sender x.body;
      answered = delivered division weights acts w made of local m again n s.node
          s.acts.is_up.stands s.acts.is_up.up s.taken x is_sent e;
      is = answer.is;
      out = answer.out;
      written = written.sends;
      names =
          let known = known_named w its_made local n s.node s.acts.is_up.stands answer.unit
          answer.within in
          message_names _ n (view member answer.unit)
          (record { promised = known.promised; voted = known.voted })
          (own_stage member answer.unit is_member)
          (is_majority w.weights) (said x.sender x.body)
          (body_comes _ x.sender x.body (heard_names member x s.taken.answer e));
    }

    pub heard_is_act : IsAct division weights acts w made of local m again (events.Deliver d n) s
    heard_is_act = record {
      done = done;
      allowed = refl;
      there = no_other division weights acts w made of local m again (events.Deliver d n) s done
          refl
          (λ closed. message_opens_none Value (is_majority w.weights) n (view member answer.unit)
          closed (said x.sender x.body));
      is = λ j b built. absurd (no_build_in_delivery n j at.0 b built);
    }

  -- So each delivery is an act, or does nothing except keep a piece.
  pub delivery_is_act : (s.taken.answer ≡ nothing member)
      ⊎ IsAct division weights acts w made of local m again (events.Deliver d n) s
  delivery_is_act =
      let text = s.acts.asks.0 in
      let kept = (local.each n s.node s.acts.is_up.stands).pieces in
      ⊎_elim
      (λ none. inl none)
      (λ h. inr (heard_is_act h.0 h.1 h.2))
      (by_arrival division weights acts w made of local m again n s.node s.acts.is_up.stands
      s.acts.is_up.up s.taken
      (arrival_of member s.node.pieces (datagram_of text))
      (comes_welcome division weights acts w made of m again n s.node s.node.pieces kept text
      (get_contains w.sent d text s.acts.asks.1))
      (s.acts.takes.right_is ∙ ap (running_step member s.node.pieces s.acts.takes.letter)
      s.acts.asks.2))
