-- What was chosen was taken, or its node went down, as events of the world.
use Rattle.std.proofs.Common.{◌≡◌, ◌++◌, ℕ, false, List, [], ◌∷◌, Option, None, Some, Ok, slice_get, slice_set, refl, sym, ap, subst, ◌∙◌, inl, inr, true≢false, if◌then◌else◌}
use Rattle.std.proofs.lemmas.Bool.{cases_eq}
use Rattle.turn_rules.specs.Acts.{asked_by}
use Rattle.turn_rules.specs.Pending.{kept_after}
use Rattle.cluster_turns.specs.Here.{here_in, member_up}
use Rattle.cluster_turns.specs.declared.chosen.Chosen.{Chosen as PreparedStep}
use Rattle.protocol.specs.Events.{Event, StopIn, node_of}
use Rattle.protocol.specs.declared.event.Left.TheVariants as left
use Rattle.ballots.specs.declared.message.Note.{Note}
use Rattle.one_list.proofs.nodes.NodeSteps.{note_answered, sends_answered}
use Rattle.one_list.proofs.uses.HostedNodes.{full_is_refused, full_of_lack, lack_of_full}
use Rattle.node.specs.OnLog.{HasRoomForNote, IsFull, IsOnLog, LacksRoom, LeavesOneMoreAtMost}
use Rattle.node.specs.Parcels.{datagrams_to}
use Rattle.node.specs.State.{LoggedNode, NodeState}
use Rattle.node.specs.Step.{Asked, Taken, Takes, after, note_in, sends_in, taken_by}
use Rattle.node.specs.declared.fault.NodeFault.TheVariants as fault
use Rattle.turn_rules.specs.Offered.{parcels_from}
use Rattle.datagram_ports.specs.Kept.{GoesOnBy}
use Rattle.protocol.specs.State.{Value}
use Rattle.stable_record.specs.Faults.{HasRisen}
use Rattle.stable_record.specs.declared.log.Log.{Log}
use Rattle.stable_record.specs.declared.log_fault.LogFault.TheVariants as log
use Rattle.cluster_turns.proofs.AnyCase.{moved_in_any, stopped_in_any}
use Rattle.cluster_turns.proofs.EventOf.{IsEventOf, IsUpAt, event_is, one_chosen}
use Rattle.cluster_turns.proofs.GoingDown.{HasDropped, stops, went}
use Rattle.cluster_turns.proofs.OneStep.{one_act, some_same}
use Rattle.cluster_turns.proofs.Stepping.{HasMoved, acts, happened, hosted_here}
use Rattle.cluster_turns.proofs.Still.{at_place, off_place}
use Rattle.cluster_turns.specs.AnyCase.{StandsInAnyCase}
use Rattle.cluster_turns.specs.State.{AreOnLogs, ClusterState, IsWorldOf, here_of, taken}
use Rattle.cluster_turns.specs.Turn.{HasFailedAt, HasHappened, KeepsWith, LeavesItsNotes, OffersItsSends, OthersStay, WentDown, WereKept}
use Rattle.cluster_turns.specs.inside.Turning.{GoesDown, IsDue, TakesStep, turning_of}
use Rattle.world.specs.Happening.{Acts, IsRefused}
use Rattle.world.specs.Sent.{with_sends}
use Rattle.world.specs.World.{IsMade, World, WorldNode, up_node}
use Rattle.world.specs.declared.fault.WorldFault.TheVariants as worlds
use Rattle.stable_record.specs.declared.disk.Disk.{Ghosts as Disk}
use Rattle.datagram_ports.specs.declared.port.Port.{Ghosts as Port}

-- the member of a node that is up
pub here_at : {D : Type 0} (nodes : List (LoggedNode D)) (k : ℕ) (n : LoggedNode D)
    → slice_get nodes k ≡ Some n → n.node.stopped ≡ false → here_in nodes k ≡ Some n.node.member
here_at nodes k n stands up =
    ap member_up stands ∙ ap (λ b. if b then None else Some n.node.member) up

-- if there is room, it is not lacking
has_room : {D : Type 0} (l : Log D) (o : Option (Note Value)) → HasRoomForNote l o
    → ¬ LacksRoom l o
has_room l None room = absurd room
has_room l (Some note) room = room

-- the last elements of two equal lists are equal
last_same : {X : Type 0} (xs : List X) (a b : X) → xs ++ a ∷ [] ≡ xs ++ b ∷ [] → a ≡ b
last_same [] a b e = cc
last_same (x ∷ xs) a b e =
    let rest : xs ++ a ∷ [] ≡ xs ++ b ∷ [] = cc in last_same xs a b rest

module _ {D P : Type 0} (old : ClusterState D P) (r : PreparedStep) (e : Event)
    (due : IsDue old.nodes old.sent r e) where
  abbrev k : ℕ
  k = r.node

  abbrev asked : Asked
  asked = asked_by r.readied.act

  abbrev n : LoggedNode D
  n = due.at.node

  -- the prepared step
  abbrev pub step_of : Taken
  step_of = taken_by n.node r.readied.ready

  pub event : IsEventOf old.sent k asked e
  event = event_is old.sent k asked e due.event

  pub takes : Takes n.node asked (Ok step_of)
  takes = due.at.readied.takes

  note_is : step_of.answer.note ≡ note_in r.readied.ready.step
  note_is = note_answered n.node.member r.readied.ready.step

  pub sends_are : step_of.answer.sends ≡ sends_in r.readied.ready.step
  sends_are = sends_answered n.node.member r.readied.ready.step

  -- it is the event's step in the world
  pub acts_so : (w : World) → IsWorldOf old w → Acts w e (up_node n.node) step_of
  acts_so w is = acts old k n due.at.stands due.at.up asked due.can e event step_of takes w is

  -- it is the only one
  pub only_step : (w : World) (x : WorldNode) (t : Taken) → IsWorldOf old w → Acts w e x t
      → t ≡ step_of
  only_step w x t is other =
      one_act w e x (up_node n.node) t step_of other (acts_so w is)

  -- the event's node is up there
  pub up_there : (w : World) → IsWorldOf old w → IsUpAt old.sent k w
  up_there w is =
      let h = hosted_here old k n due.at.stands due.at.up asked due.can e event step_of takes w is in
      record {
        node = up_node n.node;
        stands = subst (λ j. slice_get w.nodes j ≡ Some (up_node n.node)) event.of_node h.stands;
        up = refl;
        sent_is = is.sent;
      }

  -- if the log has room for the note, it isn't full
  no_room : ¬ LacksRoom n.log (note_in r.readied.ready.step) → ¬ IsFull n.node step_of.answer.note
  no_room room full = room (subst (LacksRoom n.log) note_is
      (lack_of_full n due.logged.end step_of.answer.note full))

  -- ---- the node before and after

  -- the node of that number is this one
  is_before : (m : LoggedNode D) → slice_get old.nodes k ≡ Some m → n ≡ m
  is_before m at = some_same n m (sym due.at.stands ∙ at)

  module _ (new : ClusterState D P) (later : LoggedNode D)
      (nodes : new.nodes ≡ slice_set old.nodes k later) where
    is_after : (m : LoggedNode D) → slice_get new.nodes k ≡ Some m → later ≡ m
    is_after m at = at_place old.nodes new.nodes k n later m due.at.stands nodes at

    module _ (disk : Disk D) (kept : disk.is_kept later.log.disk → disk.is_kept n.log.disk) where
      -- each disk that keeps to the disk model did so before
      were_kept : WereKept disk old new
      were_kept j before after stood stands is = elim (cases_eq j k) [
        | inl same ↦
            let first : n ≡ before = is_before before (ap (slice_get old.nodes) (sym same) ∙ stood) in
            let last : later ≡ after = is_after after (ap (slice_get new.nodes) (sym same) ∙ stands) in
            subst (λ (m : LoggedNode D). disk.is_kept m.log.disk) first
            (kept (subst (λ (m : LoggedNode D). disk.is_kept m.log.disk) (sym last) is))
        | inr other ↦
            let stays : before ≡ after = some_same before after
            (sym stood ∙ off_place old.nodes new.nodes k j later after other nodes stands) in
            subst (λ (m : LoggedNode D). disk.is_kept m.log.disk) (sym stays) is
      ]

      -- a crash at any moment leaves the node's notes, with that of the step or without it
      step_leaves : AreOnLogs disk old
          → (disk.is_kept later.log.disk → IsOnLog disk.history n
          → LeavesOneMoreAtMost n.node (note_in r.readied.ready.step) (disk.history n.log.disk)
          (disk.history later.log.disk))
          → LeavesItsNotes disk old new e k
      step_leaves on_logs any_moment before after w x t stood stands is is_world acts =
          let first : n ≡ before = is_before before stood in
          let last : later ≡ after = is_after after stands in
          let kept_then : disk.is_kept later.log.disk =
          subst (λ (m : LoggedNode D). disk.is_kept m.log.disk) (sym last) is in
          let on : IsOnLog disk.history n = on_logs k n due.at.stands due.at.up (kept kept_then) in
          let note : note_in r.readied.ready.step ≡ t.answer.note =
          sym note_is ∙ ap (λ (u : Taken). u.answer.note) (sym (only_step w x t is_world acts)) in
          subst (λ (m : LoggedNode D). LeavesOneMoreAtMost before.node t.answer.note
          (disk.history before.log.disk) (disk.history m.log.disk)) last
          (subst (λ (m : LoggedNode D). LeavesOneMoreAtMost m.node t.answer.note
          (disk.history m.log.disk) (disk.history later.log.disk)) first
          (subst (λ o. LeavesOneMoreAtMost n.node o (disk.history n.log.disk)
          (disk.history later.log.disk)) note (any_moment kept_then on)))

  -- ---- refused because the log has no room

  pub full_there : LacksRoom n.log (note_in r.readied.ready.step) → (w : World) → IsWorldOf old w
      → IsRefused w e (worlds.Node (fault.Log log.Full))
  full_there lacks w is = inr (
    event.passes w (up_there w is),
    full_is_refused w e n.node
        (hosted_here old k n due.at.stands due.at.up asked due.can e event step_of takes w is)
        event.noted step_of (acts_so w is)
        (full_of_lack n due.logged.end step_of.answer.note
        (subst (LacksRoom n.log) (sym note_is) lacks)),
  )

-- ---- taken

module _ {D P : Type 0} (disk : Disk D) (port : Port P) (old new : ClusterState D P)
    (division : new.division ≡ old.division) (weights : new.weights ≡ old.weights)
    (r : PreparedStep) (e : Event)
    (took : TakesStep disk port (turning_of old) (turning_of new) r e) where
  abbrev step_due : IsDue old.nodes old.sent r e
  step_due = took.due

  moved : HasMoved old new r.node e (step_of old r e step_due) step_due.at.node took.after
  moved = record {
    division = division;
    weights = weights;
    nodes = took.nodes;
    state = took.took.state;
    sent = took.sent ∙ ap (with_sends old.sent) (sym (sends_are old r e step_due));
    events = took.events;
  }

  pub has_happened : HasHappened old new e
  has_happened =
      happened old r.node step_due.at.node step_due.at.stands step_due.at.up
      (asked_by r.readied.act) step_due.can e (event old r e step_due) (step_of old r e step_due)
      (takes old r e step_due) new took.after moved
      (no_room old r e step_due took.took.room)

  pub others_stay : OthersStay old new (node_of e)
  others_stay = record {
    node = took.after;
    nodes = took.nodes
        ∙ ap (λ j. slice_set old.nodes j took.after) (sym (event old r e step_due).of_node);
  }

  pub offers_sends : OffersItsSends port old new e
  offers_sends w x t is acts =
      subst (λ j. GoesOnBy (parcels_from j (datagrams_to t.answer.sends)) (port.offered old.port)
      (port.offered new.port)) (sym (event old r e step_due).of_node)
      (subst (λ s. GoesOnBy (parcels_from r.node (datagrams_to s)) (port.offered old.port)
      (port.offered new.port))
      (sym (ap (λ (u : Taken). u.answer.sends) (only_step old r e step_due w x t is acts)
      ∙ sends_are old r e step_due)) took.offers)

  pub keeps_with : (w : World) → IsWorldOf old w → KeepsWith old new e
  keeps_with w is chosen s event_is here =
      let back : (r.node, asked_by r.readied.act) ≡ chosen =
      one_chosen w old.sent is.sent (r.node, asked_by r.readied.act) chosen e step_due.event
      event_is in
      let there : here_of old r.node ≡ Some s = ap (λ x. here_of old x.0) back ∙ here in
      let member : step_due.at.node.node.member ≡ s =
      some_same step_due.at.node.node.member s
      (sym (here_at old.nodes r.node step_due.at.node step_due.at.stands step_due.at.up)
      ∙ there) in
      took.pending ∙ (λ i. kept_after old.pending (back i).0 (member i) (back i).1)

  -- this holds whatever was left of earlier stops
  pub taken_in_any : IsMade old.division old.weights → StandsInAnyCase old → StandsInAnyCase new
  taken_in_any made any =
      moved_in_any old r.node step_due.at.node step_due.at.stands step_due.at.up
      (asked_by r.readied.act) step_due.can e (event old r e step_due) (step_of old r e step_due)
      (takes old r e step_due) (no_room old r e step_due took.took.room) made any new took.after
      moved

  -- each node that is up is on its log
  pub taken_on_logs : AreOnLogs disk old → AreOnLogs disk new
  taken_on_logs on_logs j m at up kept = elim (cases_eq j r.node) [
    | inl same ↦
        let last : took.after ≡ m = at_place old.nodes new.nodes r.node step_due.at.node took.after m
        step_due.at.stands took.nodes (ap (slice_get new.nodes) (sym same) ∙ at) in
        let kept_then : disk.is_kept took.after.log.disk =
        subst (λ (x : LoggedNode D). disk.is_kept x.log.disk) (sym last) kept in
        subst (IsOnLog disk.history) last (took.took.on_log kept_then
        (on_logs r.node step_due.at.node step_due.at.stands step_due.at.up (took.took.kept kept_then)))
    | inr other ↦
        on_logs j m (off_place old.nodes new.nodes r.node j took.after m other took.nodes at) up kept
  ]

  -- each disk that keeps to the disk model did so before
  pub taken_were_kept : WereKept disk old new
  taken_were_kept =
      were_kept old r e step_due new took.after took.nodes disk took.took.kept

  -- a crash at any moment leaves the notes of the event's node, with that of the step or without it
  pub taken_leaves : AreOnLogs disk old → LeavesItsNotes disk old new e (node_of e)
  taken_leaves on_logs =
      subst (LeavesItsNotes disk old new e) (sym (event old r e step_due).of_node)
      (step_leaves old r e step_due new took.after took.nodes disk took.took.kept on_logs
      took.took.any_moment)

-- ---- down

module _ {D P : Type 0} (disk : Disk D) (port : Port P) (old new : ClusterState D P)
    (division : new.division ≡ old.division) (weights : new.weights ≡ old.weights)
    (r : PreparedStep) (e : Event) (goes : GoesDown disk port (turning_of old) (turning_of new) r e)
  where
    abbrev stop_due : IsDue old.nodes old.sent r e
    stop_due = goes.due

    abbrev stopping : LoggedNode D
    stopping = stop_due.at.node

    dropped : HasDropped old new r.node e stopping goes.after
    dropped = record {
      division = division;
      weights = weights;
      nodes = goes.nodes;
      down = goes.failed.state;
      sent = goes.sent;
      events = goes.events;
    }

    has_place : ¬ IsFull stopping.node (step_of old r e stop_due).answer.note
    has_place =
        no_room old r e stop_due
        (has_room stopping.log (note_in r.readied.ready.step) goes.failed.room)

    pub has_stopped : HasHappened old new (StopIn e left.None)
    has_stopped =
        went old r.node stopping stop_due.at.stands stop_due.at.up (asked_by r.readied.act)
        stop_due.can e (event old r e stop_due) (step_of old r e stop_due) (takes old r e stop_due) has_place new goes.after dropped

    pub went_down : WentDown old new e r.node
    went_down = record {
      of_node = (event old r e stop_due).of_node;
      before = stopping;
      stood = stop_due.at.stands;
      after = goes.after;
      nodes = goes.nodes;
      down = goes.failed.state;
      sent = goes.sent;
      pending = goes.pending;
      events = goes.events;
      stopped = has_stopped;
      any_case = λ w l is.
          stops old r.node stopping stop_due.at.stands stop_due.at.up (asked_by r.readied.act)
          stop_due.can e (event old r e stop_due) (step_of old r e stop_due) (takes old r e stop_due) has_place w l is;
    }

    -- this holds whatever was left of this stop and of earlier ones
    pub down_in_any : IsMade old.division old.weights → StandsInAnyCase old → StandsInAnyCase new
    down_in_any made any =
        stopped_in_any old r.node stopping stop_due.at.stands stop_due.at.up
        (asked_by r.readied.act) stop_due.can e (event old r e stop_due) (step_of old r e stop_due)
        (takes old r e stop_due) has_place made any new division weights goes.after goes.nodes
        (ap (λ (x : NodeState). x.stopped) goes.failed.state) goes.sent goes.events

    pub has_failed_at : HasFailedAt disk old new r.node
    has_failed_at before after stood stands =
        subst (λ (m : LoggedNode D). HasRisen (disk.failures_of before.log.disk)
        (disk.failures_of m.log.disk))
        (is_after old r e stop_due new goes.after goes.nodes after stands)
        (subst (λ (m : LoggedNode D). HasRisen (disk.failures_of m.log.disk)
        (disk.failures_of goes.after.log.disk))
        (is_before old r e stop_due before stood) goes.failed.risen)

    -- the event of the stop is this one
    one_stop : (f : Event) → taken new ≡ taken old ++ StopIn f left.None ∷ [] → e ≡ f
    one_stop f events =
        let same : StopIn e left.None ≡ StopIn f left.None =
        last_same (taken old) (StopIn e left.None) (StopIn f left.None) (sym goes.events ∙ events) in
        cc

    pub leaves_notes : AreOnLogs disk old → (f : Event)
        → taken new ≡ taken old ++ StopIn f left.None ∷ [] → LeavesItsNotes disk old new f r.node
    leaves_notes on_logs f events =
        subst (λ g. LeavesItsNotes disk old new g r.node) (one_stop f events)
        (step_leaves old r e stop_due new goes.after goes.nodes disk goes.failed.kept on_logs
        goes.failed.any_moment)

    -- each disk that keeps to the disk model did so before
    pub down_were_kept : WereKept disk old new
    down_were_kept =
        were_kept old r e stop_due new goes.after goes.nodes disk goes.failed.kept

    pub down_on_logs : AreOnLogs disk old → AreOnLogs disk new
    down_on_logs on_logs j m at up kept = elim (cases_eq j r.node) [
      | inl same ↦ absurd (true≢false (
          sym (ap (λ (x : NodeState). x.stopped) goes.failed.state)
          ∙ ap (λ (x : LoggedNode D). x.node.stopped)
          (is_after old r e stop_due new goes.after goes.nodes m
          (ap (slice_get new.nodes) (sym same) ∙ at))
          ∙ up))
      | inr other ↦
          on_logs j m (off_place old.nodes new.nodes r.node j goes.after m other goes.nodes at) up
          kept
    ]
