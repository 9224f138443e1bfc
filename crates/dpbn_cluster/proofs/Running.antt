-- Sequences of turns.
use Rattle.std.proofs.Common.{◌≡◌, ◌∙◌, ◌++◌, ◌+◌, ℕ, List, [], ◌∷◌, None, Some, Result, Ok, Err, IfErr, IfOk, append-nil, append_assoc, ap, length, map, refl, subst, sym}
use Rattle.std.proofs.lemmas.List.{length_push}
use Rattle.std.specs.Prelude.{IfNone, IfSome}
use Rattle.turn_rules.specs.declared.fault.TurnFault.TheVariants as refused
use Rattle.dpbn_cluster.specs.Running.{Answer, AreEventsOf, GoesOnIn, HasRun, IsTurn, TurnsLead}
use Rattle.protocol.specs.Events.{Event, StopIn, event_view}
use Rattle.protocol.specs.declared.event.Event as declared
use Rattle.protocol.specs.declared.event.Left.TheVariants as left
use Rattle.protocol.specs.Given.{Given}
use Rattle.cluster_turns.specs.Faults.{IsLeftBy, IsTurnFault}
use Rattle.cluster_turns.specs.State.{ClusterState, taken}
use Rattle.cluster_turns.specs.Turn.{IsSame}
use Rattle.datagram_ports.specs.declared.port.Port.{Ghosts as Port}

module _ {D P : Type 0} (port : Port P) (builds : Given) where
  -- one more turn
  turn_more : (old between new : ClusterState D P) (answers : List Answer) (answer : Answer)
      → TurnsLead port builds old answers between → IsTurn port between new builds answer
      → TurnsLead port builds old (answers ++ answer ∷ []) new
  turn_more old between new [] answer same turn =
      (new, subst (λ (c : ClusterState D P). IsTurn port c new builds answer) same turn, refl)
  turn_more old between new (first ∷ answers) answer (next, one, others) turn =
      (next, one, turn_more next between new answers answer others turn)

  pub none_ran : (c : ClusterState D P) → HasRun port builds c c 0
  none_ran c = record { answers = []; count = refl; led = refl }

  pub ran_more : (old between new : ClusterState D P) (turns : ℕ)
      → HasRun port builds old between turns
      → (answer : Answer) × IsTurn port between new builds answer
      → HasRun port builds old new (turns + 1)
  ran_more old between new turns ran (answer, turn) = record {
    answers = ran.answers ++ answer ∷ [];
    count = length_push ran.answers answer ∙ ap (λ (n : ℕ). n + 1) ran.count;
    led = turn_more old between new ran.answers answer ran.led turn;
  }

  -- the tree and the weights are unchanged
  pub stays : (old new : ClusterState D P) (answers : List Answer)
      → TurnsLead port builds old answers new
      → (new.division ≡ old.division) × (new.weights ≡ old.weights)
  stays old new [] same = (ap (λ (c : ClusterState D P). c.division) same, ap (λ (c : ClusterState D P). c.weights) same)
  stays old new (answer ∷ answers) (between, turn, others) =
      let later = stays between new answers others in
      (later.0 ∙ turn.division, later.1 ∙ turn.weights)

  -- the events of one turn
  one_turn : (old new : ClusterState D P) (answer : Answer) → IsTurn port old new builds answer
      → (events : List Event) × GoesOnIn answer events × (taken new ≡ taken old ++ events)
  one_turn old new (Ok None) turn = ([], refl, ap (map event_view) turn.same.events ∙ sym (append-nil (taken old)))
  one_turn old new (Ok (Some e)) turn = (event_view e ∷ [], refl, turn.kept)
  one_turn old new (Err refused.Memory) turn = ([], refl, ap (map event_view) turn.left.events ∙ sym (append-nil (taken old)))
  one_turn old new (Err (refused.Node f)) turn = ([], refl, ap (map event_view) turn.left.events ∙ sym (append-nil (taken old)))
  one_turn old new (Err (refused.Down k)) turn =
      let down = turn.refused in
      (StopIn down.0 left.None ∷ [], (down.0, down.2.of_node, refl), down.2.events)
  one_turn old new (Err refused.NotSent) turn = ([], refl, ap (map event_view) turn.left.events ∙ sym (append-nil (taken old)))
  one_turn old new (Err refused.NotFresh) turn = absurd turn.refused

  -- the events of all turns
  pub events_of : (old new : ClusterState D P) (answers : List Answer)
      → TurnsLead port builds old answers new
      → (events : List Event) × AreEventsOf answers events × (taken new ≡ taken old ++ events)
  events_of old new [] same = ([], refl, ap (λ (c : ClusterState D P). taken c) same ∙ sym (append-nil (taken old)))
  events_of old new (answer ∷ answers) (between, turn, others) =
      let one = one_turn old between answer turn in
      let more = events_of between new answers others in (
        one.0 ++ more.0,
        (one.0, more.0, one.1, more.1, refl),
        more.2 ∙ (ap (λ (l : List Event). l ++ more.0) one.2 ∙ append_assoc (taken old) one.0 more.0),
      )
