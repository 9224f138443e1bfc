-- The chosen step is taken, or it isn't, and what it changes is kept or undone.
use Rattle.std.proofs.Common.{◌≡◌, ◌++◌, ◌⊎◌, ℕ, true, List, [], ◌∷◌, Option, None, Some, Result, Ok, Err, get_or, length, map, slice_get, slice_set, refl, sym, ap, subst, ◌∙◌, inl, inr, ⊎_elim}
use Rattle.std.proofs.lemmas.List.{append-nil}
use Rattle.std.proofs.lemmas.Option.{slice_get-get_or, slice_get_within}
use Rattle.ballots.specs.declared.message.Note.{Note}
use Rattle.turn_rules.specs.Acts.{asked_by}
use Rattle.turn_rules.specs.Choice.{Chosen}
use Rattle.turn_rules.specs.Pending.{Pending, kept_after}
use Rattle.turn_rules.specs.declared.fault.TurnFault.{TurnFault}
use Rattle.turn_rules.specs.declared.fault.TurnFault.TheVariants as refused
use Rattle.cluster_turns.specs.Choosing.{HasChosen, IsChosenAs, IsReadiedAt, looked_for, told}
use Rattle.cluster_turns.specs.Choice.{has_job}
use Rattle.protocol.specs.Given.{Given}
use Rattle.cluster_turns.specs.Here.{here_in}
use Rattle.cluster_turns.specs.Recording.{IsRecorded, IsStopOf}
use Rattle.cluster_turns.specs.declared.chosen.Chosen.{Chosen as PreparedStep}
use Rattle.cluster_turns.specs.declared.recording.ReservedStep.{ReservedStep}
use Rattle.protocol.specs.Events.{event_view}
use Rattle.protocol.specs.declared.event.Event as declared
use Rattle.faults.specs.Bytes.{Text}
use Rattle.node.specs.Calls.{IsLogCause}
use Rattle.node.specs.OnLog.{HasRoomForNote, IsLogged, IsOnLog, LeavesOneMoreAtMost}
use Rattle.node.specs.Parcels.{datagrams_to}
use Rattle.node.specs.State.{LoggedNode}
use Rattle.node.specs.Step.{IsAsked, ReadyStep, note_in, sends_in}
use Rattle.node.specs.declared.fault.NodeFault.{NodeFault}
use Rattle.node.specs.declared.fault.NodeFault.TheVariants as fault
use Rattle.turn_rules.specs.Offered.{parcels_from}
use Rattle.datagram_ports.specs.Kept.{Arrived, GoesOnBy}
use Rattle.protocol.specs.State.{Value}
use Rattle.stable_record.specs.Faults.{HasRisen}
use Rattle.stable_record.specs.declared.log_fault.LogFault.TheVariants as log
use Rattle.cluster_turns.proofs.OneStep.{some_same}
use Rattle.cluster_turns.specs.inside.Turning.{HasFailed, HasNotTaken, HasStayed, HasTaken, IsDue, IsMadeReady, IsTakenAs, IsTurn, StandsStill, StopsAs, TakesStep, Turning}
use Rattle.world.specs.Sent.{with_sends}
use Rattle.stable_record.specs.declared.disk.Disk.{Ghosts as Disk}
use Rattle.datagram_ports.specs.declared.port.Port.{Ghosts as Port}

-- what an index reads is the element at that place
pub index_is : {X : Type 0} (xs : List X) (k : ℕ) (n x : X) → slice_get xs k ≡ Some n
    → x ≡ get_or xs k x → n ≡ x
index_is xs k n x stands is =
    some_same n x (sym stands ∙ slice_get-get_or xs k x (slice_get_within xs k n stands)
    ∙ ap (λ y. Some y) (sym is))

-- ---- a port's records

-- a record continues by nothing
pub goes_on : {X : Type 0} (o : Option (List X)) → GoesOnBy [] o o
goes_on None = tt
goes_on (Some xs) = sym (append-nil xs)

-- continuing by these and then by nothing is continuing by these
pub goes_on_then : {X : Type 0} (more : List X) (a b c : Option (List X)) → GoesOnBy more a b
    → GoesOnBy [] b c → GoesOnBy more a c
goes_on_then more a b None first then = tt
goes_on_then more a None (Some zs) first then = absurd then
goes_on_then more None (Some ys) (Some zs) first then = absurd first
goes_on_then more (Some xs) (Some ys) (Some zs) first then = then ∙ append-nil ys ∙ first

pub then_goes_on : {X : Type 0} (more : List X) (a b c : Option (List X)) → GoesOnBy [] a b
    → GoesOnBy more b c → GoesOnBy more a c
then_goes_on more a b None first then = tt
then_goes_on more a None (Some zs) first then = absurd then
then_goes_on more None (Some ys) (Some zs) first then = absurd first
then_goes_on more (Some xs) (Some ys) (Some zs) first then =
    then ∙ ap (λ l. l ++ more) (first ∙ append-nil xs)

-- ---- what a node's refusal leaves

module _ {D : Type 0} (disk : Disk D) (old new : LoggedNode D) (ready : ReadyStep)
    (kept : disk.is_kept new.log.disk → disk.is_kept old.log.disk) where
  -- the node is unchanged, unless its device failed
  stayed : (f : NodeFault) → (f ≡ fault.Log log.Device → ⊥)
      → (f ≡ fault.Log log.Device) ⊎ (new.node ≡ old.node)
      → (disk.is_kept new.log.disk → IsOnLog disk.history old → (f ≡ fault.Log log.Device)
      ⊎ (IsOnLog disk.history new × (disk.history new.log.disk ≡ disk.history old.log.disk)))
      → HasStayed disk old new
  stayed f other stays on_log = record {
    state = ⊎_elim (λ e. absurd (other e)) (λ same. same) stays;
    kept = kept;
    on_log = λ k on. ⊎_elim (λ e. absurd (other e)) (λ there. there) (on_log k on);
  }

  pub not_taken : (f : NodeFault) → IsLogCause old.log (note_in ready.step) f
      → (f ≡ fault.Log log.Device) ⊎ (new.node ≡ old.node)
      → (disk.is_kept new.log.disk → IsOnLog disk.history old → (f ≡ fault.Log log.Device)
      ⊎ (IsOnLog disk.history new × (disk.history new.log.disk ≡ disk.history old.log.disk)))
      → (f ≡ fault.Log log.Device → new.node ≡ record old.node { stopped = true })
      → (f ≡ fault.Log log.Device
      → HasRisen (disk.failures_of old.log.disk) (disk.failures_of new.log.disk))
      → (disk.is_kept new.log.disk → IsOnLog disk.history old
      → LeavesOneMoreAtMost old.node (note_in ready.step) (disk.history old.log.disk)
      (disk.history new.log.disk))
      → HasNotTaken disk old new ready f
  not_taken fault.Memory cause stays on_log stops risen any_moment =
      stayed fault.Memory (λ e. cc) stays on_log
  not_taken (fault.Refused r) cause stays on_log stops risen any_moment = absurd cause
  not_taken (fault.Log log.Full) cause stays on_log stops risen any_moment =
      (cause, stayed (fault.Log log.Full) (λ e. cc) stays on_log)
  not_taken (fault.Log log.Device) cause stays on_log stops risen any_moment = record {
    state = stops refl;
    room = cause;
    risen = risen refl;
    any_moment = any_moment;
    kept = kept;
  }
  not_taken (fault.Log log.Memory) cause stays on_log stops risen any_moment = absurd cause
  not_taken (fault.Log log.MustReopen) cause stays on_log stops risen any_moment = absurd cause
  not_taken (fault.Log log.NotALog) cause stays on_log stops risen any_moment = absurd cause
  not_taken (fault.Log log.OtherCluster) cause stays on_log stops risen any_moment = absurd cause
  not_taken fault.Stopped cause stays on_log stops risen any_moment = absurd cause
  not_taken (fault.Foreign f) cause stays on_log stops risen any_moment = absurd cause

-- ---- what was chosen

module _ {D P : Type 0} (disk : Disk D) (port : Port P) (old new : Turning D P) (r : PreparedStep)
    (at : IsReadiedAt old.nodes r.node (asked_by r.readied.act) r.readied) where
  -- nothing changed
  pub all_still : new.nodes ≡ old.nodes → new.sent ≡ old.sent → new.events ≡ old.events
      → new.pending ≡ old.pending → GoesOnBy [] (port.offered old.port) (port.offered new.port)
      → StandsStill disk port old new
  all_still nodes sent events pending offers = record {
    nodes = inl nodes;
    sent = sent;
    events = events;
    pending = pending;
    offers = offers;
  }

  -- the recorded event is the step
  abbrev due_as : (recorded : ReservedStep)
      → IsRecorded old.sent (r.node, asked_by r.readied.act) r.readied.ready recorded
      → IsAsked (asked_by r.readied.act) → IsLogged at.node
      → IsDue old.nodes old.sent r (event_view recorded.kept)
  due_as recorded is can logged =
      record { at = at; can = can; logged = logged; event = is.kept }

  module _ (recorded : ReservedStep)
      (is : IsRecorded old.sent (r.node, asked_by r.readied.act) r.readied.ready recorded)
      (can : IsAsked (asked_by r.readied.act)) (logged : IsLogged at.node)
      (after : LoggedNode D) (nodes : new.nodes ≡ slice_set old.nodes r.node after) where
    map_push : (events : List declared.Event) (e : declared.Event)
        → map event_view (events ++ e ∷ []) ≡ map event_view events ++ event_view e ∷ []
    map_push [] e = refl
    map_push (x ∷ xs) e = ap (λ l. event_view x ∷ l) (map_push xs e)

    -- it was taken
    pub is_taken : HasTaken disk at.node after r.readied.ready
        → new.sent ≡ with_sends old.sent (sends_in r.readied.ready.step)
        → new.pending ≡ kept_after old.pending r.node at.node.node.member (asked_by r.readied.act)
        → new.events ≡ old.events ++ recorded.kept ∷ []
        → GoesOnBy (parcels_from r.node (datagrams_to (sends_in r.readied.ready.step)))
        (port.offered old.port) (port.offered new.port)
        → (answered : declared.Event) → answered ≡ recorded.answered
        → TakesStep disk port old new r (event_view answered)
    is_taken took sent pending events offers answered same =
        let one : event_view answered ≡ event_view recorded.kept =
        ap event_view same ∙ is.answered in
        subst (TakesStep disk port old new r) (sym one) (record {
          due = due_as recorded is can logged;
          after = after;
          nodes = nodes;
          took = took;
          sent = sent;
          pending = pending;
          events = ap (map event_view) events ∙ map_push old.events recorded.kept;
          offers = offers;
        })

    -- the node is unchanged
    still : HasStayed disk at.node after → new.sent ≡ old.sent → new.events ≡ old.events
        → new.pending ≡ old.pending → GoesOnBy [] (port.offered old.port) (port.offered new.port)
        → StandsStill disk port old new
    still stays sent events pending offers = record {
      nodes = inr (record {
        number = r.node;
        before = at.node;
        stood = at.stands;
        up = at.up;
        after = after;
        nodes = nodes;
        stays = stays;
      });
      sent = sent;
      events = events;
      pending = pending;
      offers = offers;
    }

    -- it was not taken
    pub is_not_taken : (why : NodeFault) (f : TurnFault)
        → HasNotTaken disk at.node after r.readied.ready why
        → StopsAs r.node recorded.stop old.events new.events why f → new.sent ≡ old.sent
        → new.pending ≡ old.pending → GoesOnBy [] (port.offered old.port) (port.offered new.port)
        → IsTakenAs disk port old new r (Err f)
    is_not_taken why f failed_so shown sent pending offers =
        by why recorded.stop failed_so shown is.stop
      where
        IsAs : TurnFault → Type 0
        IsAs g = IsTakenAs disk port old new r (Err g)

        down : (note : Option (Note Value)) (stop : Option declared.Event)
            → HasRoomForNote at.node.log note → IsStopOf note (event_view recorded.kept) stop
            → HasFailed disk at.node after r.readied.ready
            → StopsAs r.node stop old.events new.events (fault.Log log.Device) f → IsAs f
        down None stop room is_stop failed shown = absurd room
        down (Some note) None room is_stop failed shown = absurd is_stop
        down (Some note) (Some stop) room is_stop failed shown =
            subst IsAs (sym shown.0) (
              refl,
              (
                event_view recorded.kept,
                record {
                  due = due_as recorded is can logged;
                  after = after;
                  nodes = nodes;
                  failed = failed;
                  sent = sent;
                  pending = pending;
                  events = ap (map event_view) shown.1 ∙ map_push old.events stop
                      ∙ ap (λ e. map event_view old.events ++ e ∷ []) is_stop;
                  offers = offers;
                },
              ),
            )

        by : (why : NodeFault) (stop : Option declared.Event)
            → HasNotTaken disk at.node after r.readied.ready why
            → StopsAs r.node stop old.events new.events why f
            → IsStopOf (note_in r.readied.ready.step) (event_view recorded.kept) stop → IsAs f
        by fault.Memory stop failed_so shown is_stop =
            subst IsAs (sym shown.0) (still failed_so sent shown.1 pending offers)
        by (fault.Refused x) stop failed_so shown is_stop = absurd failed_so
        by (fault.Log log.Full) stop failed_so shown is_stop = subst IsAs (sym shown.0) (
          refl,
          record {
            event = event_view recorded.kept;
            due = due_as recorded is can logged;
            lacks = failed_so.0;
          },
          still failed_so.1 sent shown.1 pending offers,
        )
        by (fault.Log log.Device) stop failed_so shown is_stop =
            down (note_in r.readied.ready.step) stop failed_so.room is_stop failed_so shown
        by (fault.Log log.Memory) stop failed_so shown is_stop = absurd failed_so
        by (fault.Log log.MustReopen) stop failed_so shown is_stop = absurd failed_so
        by (fault.Log log.NotALog) stop failed_so shown is_stop = absurd failed_so
        by (fault.Log log.OtherCluster) stop failed_so shown is_stop = absurd failed_so
        by fault.Stopped stop failed_so shown is_stop = absurd failed_so
        by (fault.Foreign x) stop failed_so shown is_stop = absurd failed_so

-- ---- after what was chosen

-- what was chosen is prepared
pub ready_as : {D : Type 0} (nodes : List (LoggedNode D)) (sent : List Text) (p : Pending)
    (builds : Given) (a b : Option (List Arrived)) (r : PreparedStep)
    → HasChosen nodes sent p builds a b (Some r)
    → IsReadiedAt nodes r.node (asked_by r.readied.act) r.readied
ready_as nodes sent p builds a b r made = by made.chosen made.readied
  where
    by : (chosen : Chosen) → IsChosenAs nodes chosen (Some r)
        → IsReadiedAt nodes r.node (asked_by r.readied.act) r.readied
    by None shown = absurd shown
    by (Some x) shown =
        subst (λ asked. IsReadiedAt nodes r.node asked r.readied) (sym shown.1.readied.asks)
        (subst (λ k. IsReadiedAt nodes k x.1 r.readied) (sym shown.0) shown.1)

-- and nothing more was received
pub made_later : {D : Type 0} (nodes : List (LoggedNode D)) (sent : List Text) (p : Pending)
    (builds : Given) (a b c : Option (List Arrived)) (o : Option PreparedStep)
    → HasChosen nodes sent p builds a b o → GoesOnBy [] b c → HasChosen nodes sent p builds a c o
made_later nodes sent p builds a b c o made goes = record {
  chosen = made.chosen;
  is_chosen = record {
    came = made.is_chosen.came;
    looked = goes_on_then
        (looked_for (has_job (here_in nodes) (length nodes) builds) made.is_chosen.came) a b c
        made.is_chosen.looked goes;
    choice = made.is_chosen.choice;
  };
  readied = made.readied;
  event = made.event;
}

module _ {D P : Type 0} (disk : Disk D) (port : Port P) (old new : Turning D P) (p : P)
    (silent : GoesOnBy [] (port.offered p) (port.offered old.port)) (r : PreparedStep) where
  -- the parts with an earlier port, to which nothing was offered since
  abbrev before : Turning D P
  before = record old { port = p }

  still_before : StandsStill disk port old new → StandsStill disk port before new
  still_before s = record {
    nodes = s.nodes;
    sent = s.sent;
    events = s.events;
    pending = s.pending;
    offers = then_goes_on [] (port.offered p) (port.offered old.port) (port.offered new.port) silent
        s.offers;
  }

  taken_before : (result : Result declared.Event TurnFault) → IsTakenAs disk port old new r result
      → IsTakenAs disk port before new r result
  taken_before (Ok e) t = record {
    due = t.due;
    after = t.after;
    nodes = t.nodes;
    took = t.took;
    sent = t.sent;
    pending = t.pending;
    events = t.events;
    offers = then_goes_on (parcels_from r.node (datagrams_to (sends_in r.readied.ready.step)))
        (port.offered p) (port.offered old.port) (port.offered new.port) silent t.offers;
  }
  taken_before (Err refused.Memory) t = still_before t
  taken_before (Err (refused.Node f)) t = (t.0, t.1, still_before t.2)
  taken_before (Err (refused.Down k)) t = (
    t.0,
    (
      t.1.0,
      record {
        due = t.1.1.due;
        after = t.1.1.after;
        nodes = t.1.1.nodes;
        failed = t.1.1.failed;
        sent = t.1.1.sent;
        pending = t.1.1.pending;
        events = t.1.1.events;
        offers = then_goes_on [] (port.offered p) (port.offered old.port)
            (port.offered new.port) silent t.1.1.offers;
      },
    ),
  )
  taken_before (Err refused.NotSent) t = absurd t
  taken_before (Err refused.NotFresh) t = absurd t

  module _ (builds : Given) (nodes : List (LoggedNode D)) (same : old.nodes ≡ nodes)
      (made : HasChosen old.nodes old.sent old.pending builds (port.given p) (port.given old.port)
      (Some r))
      (goes : GoesOnBy [] (port.given old.port) (port.given new.port)) where
    abbrev at_first : List (LoggedNode D) → Turning D P
    at_first ns = record old { nodes = ns; port = p }

    made_first : IsMadeReady port (at_first nodes) new builds (Some r)
    made_first =
        subst (λ ns. IsMadeReady port (at_first ns) new builds (Some r)) same
        (made_later old.nodes old.sent old.pending builds (port.given p) (port.given old.port)
        (port.given new.port) (Some r) made goes)

    taken_first : (result : Result declared.Event TurnFault) → IsTakenAs disk port old new r result
        → IsTakenAs disk port (at_first nodes) new r result
    taken_first result t =
        subst (λ ns. IsTakenAs disk port (at_first ns) new r result) same
        (taken_before result t)

    -- it is the turn
    pub turned : (e : declared.Event) → IsTakenAs disk port old new r (Ok e)
        → IsTurn disk port (at_first nodes) new builds (Ok (Some e))
    turned e t = (r, made_first, taken_first (Ok e) t)

    pub turned_not : (f : TurnFault) → IsTakenAs disk port old new r (Err f)
        → IsTurn disk port (at_first nodes) new builds (Err f)
    turned_not f t = inr (r, made_first, taken_first (Err f) t)

-- ---- how it is reported

pub stops_else : (k : ℕ) (stop : Option declared.Event) (old new : List declared.Event)
    (why : NodeFault) (f : TurnFault) → (why ≡ fault.Log log.Device → ⊥) → f ≡ told why → new ≡ old
    → StopsAs k stop old new why f
stops_else k stop old new fault.Memory f other is same = (is, same)
stops_else k stop old new (fault.Refused r) f other is same = (is, same)
stops_else k stop old new (fault.Log log.Full) f other is same = (is, same)
stops_else k stop old new (fault.Log log.Device) f other is same = absurd (other refl)
stops_else k stop old new (fault.Log log.Memory) f other is same = (is, same)
stops_else k stop old new (fault.Log log.MustReopen) f other is same = (is, same)
stops_else k stop old new (fault.Log log.NotALog) f other is same = (is, same)
stops_else k stop old new (fault.Log log.OtherCluster) f other is same = (is, same)
stops_else k stop old new fault.Stopped f other is same = (is, same)
stops_else k stop old new (fault.Foreign g) f other is same = (is, same)
