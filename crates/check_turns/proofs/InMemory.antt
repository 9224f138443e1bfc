-- A turn over a port in memory: the queue that it leaves, and what it receives.
use Rattle.std.proofs.Common.{◌≡◌, ◌∙◌, ◌++◌, ℕ, Bool, true, false, List, [], ◌∷◌, Option, None, Some, Result, Ok, Err, IfErr, IfOk, ap, map, refl, subst, sym}
use Rattle.std.specs.Prelude.{All, IfNone, IfSome, OnErr}
use Rattle.turn_rules.specs.Choice.{Chosen}
use Rattle.turn_rules.specs.declared.fault.TurnFault.{TurnFault}
use Rattle.turn_rules.specs.declared.fault.TurnFault.TheVariants as refused
use Rattle.cluster_turns.specs.Choosing.{looked_for}
use Rattle.protocol.specs.Events.{event_view}
use Rattle.protocol.specs.declared.event.Event as declared
use Rattle.faults.specs.Bytes.{Text}
use Rattle.node.specs.Step.{Comes}
use Rattle.turn_rules.specs.Calls.{TurnCalls, calls_of, came_by, no_calls}
use Rattle.turn_rules.specs.Offered.{Answered, sends_of}
use Rattle.datagram_ports.proofs.Waiting.{left_waiting}
use Rattle.datagram_ports.specs.Calls.{Received, WentThrough}
use Rattle.datagram_ports.specs.InMemory.{DoesInMemory, MemPortState, Orders, waiting_after}
use Rattle.datagram_ports.specs.Kept.{Arrived, Parcel}
use Rattle.datagram_ports.specs.declared.fault.PortFault.{PortFault}
use Rattle.protocol.specs.Given.{Given}
use Rattle.cluster_turns.proofs.ByCalls.{world_with}
use Rattle.cluster_turns.specs.Calls.{HasCalled, IsByCalls, calls_as_port, with_calls}
use Rattle.cluster_turns.specs.Faults.{IsTurnFault}
use Rattle.cluster_turns.specs.State.{ClusterState}
use Rattle.cluster_turns.specs.Turn.{IsChosen, IsEventChosen}
use Rattle.check_turns.proofs.Hearing.{hears}
use Rattle.check_turns.proofs.Waiting.{after_both, after_receives, after_sends, gave_first, left_one, mem_port, received_none, received_one, sends_answered}
use Rattle.check_turns.specs.Heard.{GaveJust}
use Rattle.check_turns.specs.InMemory.{AreItsSends, HearsFirst, IsAnswered, TurnsInMemory, left_by, put_by_all, waits_for_answer}

-- what a turn returns
abbrev Outcome : Type 0
Outcome = Result (Option declared.Event) TurnFault

-- ---- a turn, by its calls

module _ {D : Type 0} (old new : ClusterState D TurnCalls) (builds : Given) where
  -- each result has its choice
  choice_in : (r : Outcome) → IsByCalls old new builds r
      → (chosen : Chosen) × IsChosen calls_as_port old new builds chosen
  choice_in (Ok None) t = (None, t.0)
  choice_in (Ok (Some e)) t = (Some t.0.chosen, t.0.is_chosen)
  choice_in (Err refused.Memory) t = (Some t.0.0, t.0.1)
  choice_in (Err (refused.Node f)) t = (Some t.0.1.chosen, t.0.1.is_chosen)
  choice_in (Err (refused.Down k)) t = (Some t.0.1.chosen, t.0.1.is_chosen)
  choice_in (Err refused.NotSent) t = (Some (t.0.0, Comes t.0.1), t.0.2)
  choice_in (Err refused.NotFresh) t = absurd t.0

  chosen_in : (r : Outcome) → IsByCalls old new builds r
      → IfOk r (λ o. IfSome o (λ e. IsEventChosen calls_as_port old new builds (event_view e)))
  chosen_in (Ok None) t = tt
  chosen_in (Ok (Some e)) t = t.0
  chosen_in (Err f) t = tt

  nothing_in : (r : Outcome) → IsByCalls old new builds r
      → IfOk r (λ o. IfNone o (IsChosen calls_as_port old new builds None))
  nothing_in (Ok None) t = t.0
  nothing_in (Ok (Some e)) t = tt
  nothing_in (Err f) t = tt

  fault_in : (r : Outcome) → IsByCalls old new builds r
      → IfErr r (IsTurnFault calls_as_port old new builds)
  fault_in (Ok None) t = tt
  fault_in (Ok (Some e)) t = tt
  fault_in (Err f) t = t.0

none_offered : (offered : List Answered) → map (λ (a : Answered). a.0) offered ≡ []
    → offered ≡ []
none_offered [] is = refl
none_offered (a ∷ rest) is = absurd (
    let no : ◌≡◌ {A = List Parcel} (a.0 ∷ map (λ (b : Answered). b.0) rest) [] = is in cc)

-- ---- over a port in memory

module _ {D : Type 0} (old new : ClusterState D MemPortState) (builds : Given) (answer : Outcome)
    (c : HasCalled mem_port old new builds answer) where
  abbrev first : ClusterState D TurnCalls
  first = with_calls old no_calls

  abbrev last : ClusterState D TurnCalls
  last = with_calls new c.calls

  abbrev job : Bool
  job = waits_for_answer old builds

  abbrev orders : Orders
  orders = old.port.orders

  -- what it returned was asked for
  looked : (came : Arrived) × (map came_by c.calls.received ≡ looked_for job came)
  looked = let is = choice_in first last builds answer c.by_calls in (is.1.came, is.1.looked)

  went_so : (received : List (Result Arrived PortFault)) → c.calls.received ≡ received
      → WentThrough DoesInMemory old.port (map Received received ++ sends_of c.calls.offered)
      new.port
  went_so received is =
      subst (λ (l : List (Result Arrived PortFault)).
      WentThrough DoesInMemory old.port (map Received l ++ sends_of c.calls.offered) new.port) is
      c.went

  -- what receives left of the queue
  abbrev left_after : List (Result Arrived PortFault) → List (ℕ × Text)
  left_after received = waiting_after orders (map Received received) old.port.waiting

  left_so : left_after c.calls.received ≡ left_by job orders.is_deaf old.port.waiting
  left_so = by job looked.1
    where
      by : (b : Bool) → map came_by c.calls.received ≡ looked_for b looked.0
          → left_after c.calls.received ≡ left_by b orders.is_deaf old.port.waiting
      by true is =
          ap (λ (l : List (Result Arrived PortFault)). left_after l)
          (received_none c.calls.received is)
      by false is =
          let one = received_one c.calls.received looked.0 is in
          ap (λ (l : List (Result Arrived PortFault)). left_after l) one.1
          ∙ left_one old.port new.port one.0 (sends_of c.calls.offered)
          (went_so (one.0 ∷ []) one.1)

  waits_so : new.port.waiting ≡ left_by job orders.is_deaf old.port.waiting
      ++ put_by_all orders.is_twice c.calls.offered
  waits_so =
      (left_waiting old.port new.port (calls_of c.calls) c.went).waiting
      ∙ (after_both orders (map Received c.calls.received) (sends_of c.calls.offered)
      old.port.waiting
      ∙ (after_sends orders c.calls.offered (left_after c.calls.received)
      ∙ ap (λ (l : List (ℕ × Text)). l ++ put_by_all orders.is_twice c.calls.offered) left_so))

  answered_so : All (IsAnswered orders.lost_to) c.calls.offered
  answered_so =
      let r = after_receives old.port new.port c.calls.received (sends_of c.calls.offered) c.went in
      subst (λ (o : Orders). All (IsAnswered o.lost_to) c.calls.offered) r.1
      (sends_answered r.0 new.port c.calls.offered r.2)

  -- the first datagram in the queue is received
  hears_so : HearsFirst old builds answer
  hears_so k text s waits listens idle sent up =
      let is : map came_by c.calls.received ≡ looked.0 ∷ [] =
      subst (λ (b : Bool). map came_by c.calls.received ≡ looked_for b looked.0) idle looked.1 in
      let one = received_one c.calls.received looked.0 is in
      let gave : came_by one.0 ≡ Some (k, text) =
      gave_first old.port new.port one.0 (sends_of c.calls.offered) (k, text)
      (went_so (one.0 ∷ []) one.1) waits listens in
      let just : GaveJust calls_as_port no_calls c.calls (Some (k, text)) = record {
        before = [];
        first = refl;
        last = ap (λ (l : List Arrived). Some l)
            (is ∙ ap (λ (a : Arrived). a ∷ []) (sym one.2 ∙ gave));
      } in
      let h = hears calls_as_port first last builds k text s just sent up answer
      (chosen_in first last builds answer c.by_calls)
      (nothing_in first last builds answer c.by_calls)
      (fault_in first last builds answer c.by_calls) in
      record { sent = h.sent; event = h.event }

module _ {D : Type 0} (old new : ClusterState D MemPortState) (builds : Given) where
  sends_by : (r : Outcome) (c : HasCalled mem_port old new builds r)
      → IfOk r (λ o. IfSome o (λ e. AreItsSends old e c.calls.offered))
  sends_by (Ok None) c = tt
  sends_by (Ok (Some e)) c =
      λ w x t is acts. c.by_calls.1 w x t (world_with old no_calls w is) acts
  sends_by (Err f) c = tt

  none_by : (r : Outcome) (c : HasCalled mem_port old new builds r)
      → IfOk r (λ o. IfNone o (c.calls.offered ≡ []))
  none_by (Ok None) c = none_offered c.calls.offered c.by_calls.1
  none_by (Ok (Some e)) c = tt
  none_by (Err f) c = tt

  none_refused_by : (r : Outcome) (c : HasCalled mem_port old new builds r)
      → OnErr r (c.calls.offered ≡ [])
  none_refused_by (Ok o) c = tt
  none_refused_by (Err f) c = none_offered c.calls.offered c.by_calls.1

  pub turns_in_memory : (answer : Outcome) → HasCalled mem_port old new builds answer
      → TurnsInMemory old new builds answer
  turns_in_memory answer c = record {
    offered = c.calls.offered;
    sends = sends_by answer c;
    none = none_by answer c;
    none_refused = none_refused_by answer c;
    answered = answered_so old new builds answer c;
    orders = (left_waiting old.port new.port (calls_of c.calls) c.went).orders;
    waiting = waits_so old new builds answer c;
    hears = hears_so old new builds answer c;
  }
