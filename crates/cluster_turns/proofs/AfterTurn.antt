-- What holds of a cluster after a turn, whatever its result.
use Rattle.std.proofs.Common.{◌≡◌, ◌++◌, ◌⊎◌, ◌+◌, ◌<◌, ℕ, Bool, true, false, [], ◌∷◌, Option, None, Some, Result, Ok, Err, length, refl, ap, ◌∙◌, arith, inl, inr, ⊎_elim, if◌then◌else◌}
use Rattle.std.proofs.lemmas.List.{length-set}
use Rattle.std.proofs.lemmas.Option.{slice_get_within}
use Rattle.turn_rules.specs.Acts.{asked_by}
use Rattle.turn_rules.specs.Pending.{Pending, has_failed, kept_after, with_failed}
use Rattle.turn_rules.specs.declared.fault.TurnFault.{TurnFault}
use Rattle.protocol.specs.Given.{Given}
use Rattle.cluster_turns.specs.declared.chosen.Chosen.{Chosen as PreparedStep}
use Rattle.protocol.specs.Events.{Event, event_view}
use Rattle.protocol.specs.declared.event.Event as declared
use Rattle.node.specs.Step.{Asked, Comes, Does}
use Rattle.protocol.specs.State.{OpenClaim, State}
use Rattle.protocol.specs.declared.input.Input.TheVariants as inputs
use Rattle.cluster_turns.proofs.AnyCase.{still_in_any}
use Rattle.cluster_turns.proofs.Moving.{down_in_any, down_on_logs, down_were_kept, has_happened, has_stopped, taken_in_any, taken_on_logs, taken_were_kept}
use Rattle.cluster_turns.proofs.Still.{are_untouched, is_same, same_count, still_on_logs, still_world}
use Rattle.cluster_turns.proofs.Turns.{still_or_down}
use Rattle.cluster_turns.specs.AnyCase.{StandsInAnyCase}
use Rattle.cluster_turns.specs.State.{AreOnLogs, ClusterState, IsWorldOf}
use Rattle.cluster_turns.specs.Turn.{WereKept}
use Rattle.cluster_turns.specs.inside.Turning.{GoesDown, IsTurn, StandsStill, TakesStep, turning_of}
use Rattle.world.specs.World.{World}
use Rattle.stable_record.specs.declared.disk.Disk.{Ghosts as Disk}
use Rattle.datagram_ports.specs.declared.port.Port.{Ghosts as Port}

next_failed : (p : Pending) (o : Option OpenClaim) → (with_failed p o).next ≡ p.next
next_failed p None = refl
next_failed p (Some o) = by (has_failed p o.unit)
  where
    by : (b : Bool)
        → (if b then p else record p { failed = p.failed ++ o.unit ∷ [] }).next ≡ p.next
    by true = refl
    by false = refl

next_after : (p : Pending) (k : ℕ) (s : State) (asked : Asked)
    → ((kept_after p k s asked).next ≡ p.next) ⊎ ((kept_after p k s asked).next ≡ k + 1)
next_after p k s (Comes text) = inl refl
next_after p k s (Does (inputs.Claim path host above)) = inr refl
next_after p k s (Does (inputs.Built path given)) = inl refl
next_after p k s (Does (inputs.Failed path)) = inl (next_failed p s.claim)
next_after p k s (Does inputs.Nudge) = inr refl
next_after p k s (Does (inputs.Ask path)) = inl refl
next_after p k s (Does (inputs.Message m)) = inl refl

-- What holds of the cluster after the turn.
pub record StandsThen {D P : Type 0} (disk : Disk D) (old new : ClusterState D P) : Type 0 where
  pub world : World
  pub is_world : IsWorldOf new world
  pub on_logs : AreOnLogs disk new
  pub kept_before : WereKept disk old new
  pub count : length new.nodes ≡ length old.nodes
  pub placed : old.pending.next < length old.nodes + 1
      → new.pending.next < length new.nodes + 1
  pub any_case : StandsInAnyCase old → StandsInAnyCase new

module _ {D P : Type 0} (disk : Disk D) (port : Port P) (old new : ClusterState D P)
    (builds : Given) (division : new.division ≡ old.division) (weights : new.weights ≡ old.weights)
    (count : length old.nodes ≡ length old.weights) (w : World) (is : IsWorldOf old w)
    (on_logs : AreOnLogs disk old) where
  abbrev IsTurnOf : Result (Option declared.Event) TurnFault → Type 0
  IsTurnOf result =
      IsTurn disk port (turning_of old) (turning_of new) builds result

  abbrev StandsStillHere : Type 0
  StandsStillHere = StandsStill disk port (turning_of old) (turning_of new)

  still_then : StandsStillHere → StandsThen disk old new
  still_then still = record {
    world = w;
    is_world = still_world disk port old new division weights still w is;
    on_logs = still_on_logs disk port old new division weights still on_logs;
    kept_before = λ k before after stood stands kept.
        (are_untouched disk port old new division weights still on_logs k before
        after stood stands kept).0;
    count = same_count disk old.nodes new.nodes still.nodes;
    placed = λ placed. omega (
      arith,
      placed,
      same_count disk old.nodes new.nodes still.nodes,
      ap (λ (p : Pending). p.next) still.pending,
    );
    any_case = still_in_any old new division weights
        (is_same disk port old new division weights still);
  }

  next_then : (r : PreparedStep) (e : Event)
      (took : TakesStep disk port (turning_of old) (turning_of new) r e)
      → length new.nodes ≡ length old.nodes → old.pending.next < length old.nodes + 1
      → new.pending.next < length new.nodes + 1
  next_then r e took many placed =
      let node = took.due.at.node in
      let within = slice_get_within old.nodes r.node node took.due.at.stands in
      let next = ap (λ (p : Pending). p.next) took.pending in
      ⊎_elim
      (λ same. omega (arith, placed, many, next, same))
      (λ later. omega (arith, within, many, next, later))
      (next_after old.pending r.node node.node.member (asked_by r.readied.act))

  taken_then : (r : PreparedStep) (e : Event)
      → TakesStep disk port (turning_of old) (turning_of new) r e → StandsThen disk old new
  taken_then r e took =
      let many = ap length took.nodes ∙ length-set old.nodes r.node took.after in
      let h = has_happened disk port old new division weights r e took w is in
      record {
        world = h.0;
        is_world = h.2;
        on_logs = taken_on_logs disk port old new division weights r e took on_logs;
        kept_before = taken_were_kept disk port old new division weights r e took;
        count = many;
        placed = next_then r e took many;
        any_case = taken_in_any disk port old new division weights r e took is.made;
      }

  down_then : (r : PreparedStep) (e : Event)
      → GoesDown disk port (turning_of old) (turning_of new) r e → StandsThen disk old new
  down_then r e goes =
      let many = ap length goes.nodes ∙ length-set old.nodes r.node goes.after in
      let h = has_stopped disk port old new division weights r e goes w is in
      record {
        world = h.0;
        is_world = h.2;
        on_logs = down_on_logs disk port old new division weights r e goes
            on_logs;
        kept_before = down_were_kept disk port old new division weights r e
            goes;
        count = many;
        placed = λ placed.
            omega (arith, placed, many, ap (λ (p : Pending). p.next) goes.pending);
        any_case = down_in_any disk port old new division weights r e goes
            is.made;
      }

  pub stands_then : (result : Result (Option declared.Event) TurnFault) → IsTurnOf result
      → StandsThen disk old new
  stands_then (Ok None) t = still_then t.1
  stands_then (Ok (Some e)) t = taken_then t.0 (event_view e) t.2
  stands_then (Err f) t = ⊎_elim still_then (λ down. down_then down.2.0 down.2.1 down.2.3)
      (still_or_down disk port old new builds division weights count w is
      on_logs f t)
