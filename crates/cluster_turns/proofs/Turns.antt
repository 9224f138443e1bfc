-- A turn, by its result: the event in the world, and what the turn leaves.
use Rattle.std.proofs.Common.{◌≡◌, ◌++◌, ◌⊎◌, ℕ, [], ◌∷◌, Option, None, Some, Result, Ok, Err, length, refl, sym, subst, inl, inr, ⊎_elim}
use Rattle.std.specs.Prelude.{IfErr, IfNone, IfOk, IfSome}
use Rattle.turn_rules.specs.Acts.{asked_by}
use Rattle.turn_rules.specs.Choice.{Chosen}
use Rattle.turn_rules.specs.declared.fault.TurnFault.{TurnFault}
use Rattle.turn_rules.specs.declared.fault.TurnFault.TheVariants as refused
use Rattle.cluster_turns.specs.Choosing.{IsChosenAs, IsChosenBy, looked_for}
use Rattle.cluster_turns.specs.Events.{event_of}
use Rattle.cluster_turns.specs.Choice.{IsChoiceWith, has_job}
use Rattle.protocol.specs.Given.{Given}
use Rattle.cluster_turns.specs.Here.{here_in}
use Rattle.cluster_turns.specs.declared.chosen.Chosen.{Chosen as PreparedStep}
use Rattle.protocol.specs.Events.{Event, StopIn, event_view, node_of}
use Rattle.protocol.specs.declared.event.Event as declared
use Rattle.protocol.specs.declared.event.Left.TheVariants as left
use Rattle.node.specs.Step.{Comes, Does}
use Rattle.datagram_ports.specs.Kept.{GoesOnBy}
use Rattle.cluster_turns.proofs.Moving.{full_there, has_failed_at, has_happened, keeps_with, leaves_notes, offers_sends, others_stay, taken_leaves, went_down}
use Rattle.cluster_turns.proofs.Refusing.{refused_so, some_of}
use Rattle.cluster_turns.proofs.Still.{are_untouched, is_same}
use Rattle.cluster_turns.specs.Faults.{IsLeftBy, IsTurnFault}
use Rattle.cluster_turns.specs.State.{AreOnLogs, ClusterState, IsWorldOf, taken}
use Rattle.cluster_turns.specs.Turn.{AreUntouched, HasFailedAt, HasHappened, IsChosen, IsEventChosen, IsSame, KeepsWith, LeavesItsNotes, Offers, OffersNothing, OthersStay, WentDown}
use Rattle.cluster_turns.specs.inside.Turning.{GoesDown, IsDue, IsMadeReady, IsTurn, StandsStill, turning_of}
use Rattle.world.specs.Happening.{IsRefused}
use Rattle.world.specs.World.{World}
use Rattle.world.specs.declared.fault.WorldFault.TheVariants as worlds
use Rattle.stable_record.specs.declared.disk.Disk.{Ghosts as Disk}
use Rattle.datagram_ports.specs.declared.port.Port.{Ghosts as Port}

-- What a turn with this result promises.
pub record Promises {D P : Type 0} (disk : Disk D) (port : Port P) (old new : ClusterState D P)
    (builds : Given) (result : Result (Option declared.Event) TurnFault) : Type 0 where
  pub chosen : IfOk result (λ o. IfSome o (λ e. IsEventChosen port old new builds (event_view e)))
  pub nothing : IfOk result (λ o. IfNone o (IsChosen port old new builds None))
  pub happened : IfOk result (λ o. IfSome o (λ e. HasHappened old new (event_view e)))
  pub others : IfOk result (λ o. IfSome o (λ e. OthersStay old new (node_of (event_view e))))
  pub offers : Offers port old new result
  pub pending : IfOk result (λ o. IfSome o (λ e. KeepsWith old new (event_view e)))
  pub same : IfOk result (λ o. IfNone o (IsSame old new))
  pub faults : IfErr result (IsTurnFault port old new builds)
  pub leaves : IfErr result (IsLeftBy old new)
  pub untouched : IfErr result (λ f. ((k : ℕ) × (f ≡ refused.Down k)) ⊎ AreUntouched disk old new)
  pub nothing_touched : IfOk result (λ o. IfNone o (AreUntouched disk old new))
  pub any_moment_taken : IfOk result (λ o. IfSome o (λ e.
      LeavesItsNotes disk old new (event_view e) (node_of (event_view e))))
  pub any_moment : IfErr result (λ f. (e : Event) (k : ℕ) → f ≡ refused.Down k
      → taken new ≡ taken old ++ StopIn e left.None ∷ []
      → LeavesItsNotes disk old new e k)
  pub device : IfErr result (λ f. (k : ℕ) → f ≡ refused.Down k → HasFailedAt disk old new k)

module _ {D P : Type 0} (disk : Disk D) (port : Port P) (old new : ClusterState D P)
    (builds : Given) (division : new.division ≡ old.division) (weights : new.weights ≡ old.weights)
    (count : length old.nodes ≡ length old.weights) (w : World) (is : IsWorldOf old w)
    (on_logs : AreOnLogs disk old) where
  abbrev IsTurnOf : Result (Option declared.Event) TurnFault → Type 0
  IsTurnOf result =
      IsTurn disk port (turning_of old) (turning_of new) builds result

  abbrev StandsStillHere : Type 0
  StandsStillHere = StandsStill disk port (turning_of old) (turning_of new)

  -- ---- the choice

  chosen_is : (chosen : Chosen) → IsChosenBy (here_in old.nodes) (length old.nodes) old.pending
      builds (port.given old.port) (port.given new.port) chosen
      → IsChosen port old new builds chosen
  chosen_is chosen by = record {
    came = by.came;
    looked = subst (λ m. GoesOnBy (looked_for (has_job (here_in old.nodes) m builds) by.came)
        (port.given old.port) (port.given new.port)) count by.looked;
    choice = subst (λ m. IsChoiceWith (here_in old.nodes) m old.pending builds by.came chosen) count
        by.choice;
  }

  chosen_none : (chosen : Chosen) → IsChosenAs old.nodes chosen None → chosen ≡ None
  chosen_none None shown = refl
  chosen_none (Some x) shown = absurd shown

  chosen_some : (chosen : Chosen) (r : PreparedStep) → IsChosenAs old.nodes chosen (Some r)
      → chosen ≡ Some (r.node, asked_by r.readied.act)
  chosen_some None r shown = absurd shown
  chosen_some (Some x) r shown =
      let number : x.0 ≡ r.node = sym shown.0 in
      let asked : x.1 ≡ asked_by r.readied.act = sym shown.1.readied.asks in
      λ i. Some (number i, asked i)

  event_chosen : (r : PreparedStep) (e : Event)
      → IsMadeReady port (turning_of old) (turning_of new) builds (Some r)
      → IsDue old.nodes old.sent r e → IsEventChosen port old new builds e
  event_chosen r e made due = record {
    chosen = (r.node, asked_by r.readied.act);
    is_chosen = subst (IsChosen port old new builds) (chosen_some made.chosen r made.readied)
        (chosen_is made.chosen made.is_chosen);
    event = due.event;
  }

  -- ---- nothing changed

  still_same : StandsStillHere → IsSame old new
  still_same still = is_same disk port old new division weights still

  still_untouched : StandsStillHere → AreUntouched disk old new
  still_untouched still =
      are_untouched disk port old new division weights still on_logs

  -- ---- refusals

  fault_is : (f : TurnFault) → IsTurnOf (Err f) → IsTurnFault port old new builds f
  fault_is refused.Memory (inl t) = (t.0.0, chosen_is (Some t.0.0) t.0.1)
  fault_is refused.Memory (inr t) = (
    (t.0.node, asked_by t.0.readied.act),
    subst (IsChosen port old new builds) (chosen_some t.1.chosen t.0 t.1.readied)
        (chosen_is t.1.chosen t.1.is_chosen),
  )
  fault_is (refused.Node f) (inl (refuses, still)) =
      let e = some_of (event_of old.sent (refuses.0, Does refuses.1)) refuses.3 in (
        e.0,
        record {
          chosen = (refuses.0, Does refuses.1);
          is_chosen = chosen_is (Some (refuses.0, Does refuses.1)) refuses.2;
          event = e.1;
        },
        λ u at. refused_so old u at refuses.0 (Does refuses.1) e.0 e.1 f refuses.4,
      )
  fault_is (refused.Node f) (inr (r, made, (full, lacks, still))) = (
    lacks.event,
    event_chosen r lacks.event made lacks.due,
    λ u at. subst (λ g. IsRefused u lacks.event (worlds.Node g)) (sym full)
        (full_there old r lacks.event lacks.due lacks.lacks u at),
  )
  fault_is (refused.Down k) (inl t) = absurd t.0
  fault_is (refused.Down k) (inr (r, made, (same, (e, goes)))) = (
    e,
    event_chosen r e made goes.due,
    subst (WentDown old new e) (sym same)
        (went_down disk port old new division weights r e goes),
  )
  fault_is refused.NotSent (inl (refuses, still)) =
      (refuses.0, refuses.1, chosen_is (Some (refuses.0, Comes refuses.1)) refuses.2, refuses.3)
  fault_is refused.NotSent (inr t) = absurd t.2
  fault_is refused.NotFresh (inl t) = absurd t.0
  fault_is refused.NotFresh (inr t) = absurd t.2

  -- a refusal leaves everything unchanged, unless a node went down
  abbrev IsStillOrDown : TurnFault → Type 0
  IsStillOrDown f =
      StandsStillHere
      ⊎ ((k : ℕ) × (f ≡ refused.Down k) × ((r : PreparedStep) × (e : Event) × (k ≡ r.node)
      × GoesDown disk port (turning_of old) (turning_of new) r e))

  pub still_or_down : (f : TurnFault) → IsTurnOf (Err f) → IsStillOrDown f
  still_or_down f (inl t) = inl t.1
  still_or_down refused.Memory (inr t) = inl t.2
  still_or_down (refused.Node f) (inr t) = inl t.2.2
  still_or_down (refused.Down k) (inr t) = inr (k, refl, (t.0, t.2.1.0, t.2.0, t.2.1.1))
  still_or_down refused.NotSent (inr t) = absurd t.2
  still_or_down refused.NotFresh (inr t) = absurd t.2

  left_by_still : (f : TurnFault) → IsSame old new → IsLeftBy old new f
  left_by_still refused.Memory same = same
  left_by_still (refused.Node f) same = same
  left_by_still (refused.Down k) same = tt
  left_by_still refused.NotSent same = same
  left_by_still refused.NotFresh same = same

  -- the device of node k failed
  down_leaves : (k : ℕ) (e : Event) → IsTurnOf (Err (refused.Down k))
      → taken new ≡ taken old ++ StopIn e left.None ∷ [] → LeavesItsNotes disk old new e k
  down_leaves k e (inl t) events = absurd t.0
  down_leaves k e (inr t) events =
      subst (LeavesItsNotes disk old new e) (sym t.2.0)
      (leaves_notes disk port old new division weights t.0 t.2.1.0 t.2.1.1
      on_logs e events)

  down_failed : (k : ℕ) → IsTurnOf (Err (refused.Down k)) → HasFailedAt disk old new k
  down_failed k (inl t) = absurd t.0
  down_failed k (inr t) =
      subst (HasFailedAt disk old new) (sym t.2.0)
      (has_failed_at disk port old new division weights t.0 t.2.1.0 t.2.1.1)

  -- a refused turn offered nothing
  offers_none : (f : TurnFault) → IsTurnOf (Err f) → OffersNothing port old new
  offers_none f (inl t) = t.1.offers
  offers_none refused.Memory (inr t) = t.2.offers
  offers_none (refused.Node f) (inr t) = t.2.2.offers
  offers_none (refused.Down k) (inr t) = t.2.1.1.offers
  offers_none refused.NotSent (inr t) = absurd t.2
  offers_none refused.NotFresh (inr t) = absurd t.2

  -- ---- by the result

  pub promises : (result : Result (Option declared.Event) TurnFault) → IsTurnOf result
      → Promises disk port old new builds result
  promises (Ok None) t = record {
    chosen = tt;
    nothing = subst (IsChosen port old new builds) (chosen_none t.0.chosen t.0.readied)
        (chosen_is t.0.chosen t.0.is_chosen);
    happened = tt;
    others = tt;
    offers = t.1.offers;
    pending = tt;
    same = still_same t.1;
    faults = tt;
    leaves = tt;
    untouched = tt;
    nothing_touched = still_untouched t.1;
    any_moment_taken = tt;
    any_moment = tt;
    device = tt;
  }
  promises (Ok (Some e)) t = record {
    chosen = event_chosen t.0 (event_view e) t.1 t.2.due;
    nothing = tt;
    happened = has_happened disk port old new division weights t.0 (event_view e)
        t.2;
    others = others_stay disk port old new division weights t.0 (event_view e) t.2;
    offers = offers_sends disk port old new division weights t.0 (event_view e)
        t.2;
    pending = keeps_with disk port old new division weights t.0 (event_view e) t.2
        w is;
    same = tt;
    faults = tt;
    leaves = tt;
    untouched = tt;
    nothing_touched = tt;
    any_moment_taken = taken_leaves disk port old new division weights t.0
        (event_view e) t.2 on_logs;
    any_moment = tt;
    device = tt;
  }
  promises (Err f) t = record {
    chosen = tt;
    nothing = tt;
    happened = tt;
    others = tt;
    offers = offers_none f t;
    pending = tt;
    same = tt;
    faults = fault_is f t;
    leaves = ⊎_elim
        (λ still. left_by_still f (still_same still))
        (λ down. subst (IsLeftBy old new) (sym down.1) tt)
        (still_or_down f t);
    untouched = ⊎_elim
        (λ still. inr (still_untouched still))
        (λ down. inl (down.0, down.1))
        (still_or_down f t);
    nothing_touched = tt;
    any_moment_taken = tt;
    any_moment = λ e k is_down events.
        down_leaves k e (subst (λ g. IsTurnOf (Err g)) is_down t) events;
    device = λ k is_down. down_failed k (subst (λ g. IsTurnOf (Err g)) is_down t);
  }
