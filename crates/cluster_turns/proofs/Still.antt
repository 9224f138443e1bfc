-- A cluster in which nothing changed except room on a disk.
use Rattle.std.proofs.Common.{◌≡◌, ◌≢◌, ℕ, zero, suc, false, List, [], ◌∷◌, Option, None, Some, length, map, slice_get, slice_set, refl, sym, ap, subst, ◌∙◌, inl, inr, ⊎_elim, if◌then◌else◌}
use Rattle.std.proofs.lemmas.Bool.{cases_eq}
use Rattle.std.proofs.lemmas.List.{length-set}
use Rattle.protocol.specs.Events.{event_view}
use Rattle.one_list.proofs.uses.HostedNodes.{set_elsewhere, set_there}
use Rattle.node.specs.OnLog.{IsOnLog}
use Rattle.node.specs.State.{LoggedNode, NodeState}
use Rattle.cluster_turns.proofs.Standing.{map_set}
use Rattle.cluster_turns.specs.State.{AreOnLogs, ClusterState, IsWorldOf, node_view, taken}
use Rattle.cluster_turns.specs.Turn.{AreUntouched, IsSame}
use Rattle.cluster_turns.specs.inside.Turning.{AllStay, OneStays, StandsStill, turning_of}
use Rattle.world.specs.Happening.{Leads}
use Rattle.world.specs.World.{IsMade, World, WorldNode, down_node, node_at, start, up_node}
use Rattle.stable_record.specs.declared.disk.Disk.{Ghosts as Disk}
use Rattle.datagram_ports.specs.declared.port.Port.{Ghosts as Port}

-- the element at the place where a list was changed
pub at_place : {X : Type 0} (xs ys : List X) (k : ℕ) (x y z : X) → slice_get xs k ≡ Some x
    → ys ≡ slice_set xs k y → slice_get ys k ≡ Some z → y ≡ z
at_place {X} xs ys k x y z stood set at =
    let known : ◌≡◌ {A = Option X} (Some y) (Some z) =
    sym (set_there xs k x y stood) ∙ ap (λ l. slice_get l k) (sym set) ∙ at in
    cc

-- the elements at other places
pub off_place : {X : Type 0} (xs ys : List X) (k j : ℕ) (y z : X) → j ≢ k
    → ys ≡ slice_set xs k y → slice_get ys j ≡ Some z → slice_get xs j ≡ Some z
off_place xs ys k j y z other set at =
    sym (set_elsewhere xs k j y other) ∙ ap (λ l. slice_get l j) (sym set) ∙ at

-- setting an element to itself changes nothing
pub set_again : {X : Type 0} (xs : List X) (k : ℕ) (x : X) → slice_get xs k ≡ Some x
    → slice_set xs k x ≡ xs
set_again [] k x at = refl
set_again (y ∷ ys) zero x at =
    let same : y ≡ x = cc in ap (λ z. z ∷ ys) (sym same)
set_again (y ∷ ys) (suc k) x at = ap (λ l. y ∷ l) (set_again ys k x at)

get_map : {X Y : Type 0} (f : X → Y) (xs : List X) (k : ℕ) (x : X) → slice_get xs k ≡ Some x
    → slice_get (map f xs) k ≡ Some (f x)
get_map {X} f [] k x at =
    absurd (let no : ◌≡◌ {A = Option X} None (Some x) = at in cc)
get_map f (y ∷ ys) zero x at = let same : y ≡ x = cc in ap (λ z. Some (f z)) same
get_map f (y ∷ ys) (suc k) x at = get_map f ys k x at

-- a node as its own contracts see it
abbrev state : {D : Type 0} → LoggedNode D → NodeState
state n = n.node

-- and as one of a world
abbrev view_of : NodeState → WorldNode
view_of x = if x.stopped then down_node x.notes [] else up_node x

module _ {D : Type 0} where
  -- a node of the world depends only on the node's state
  pub views : (xs : List (LoggedNode D)) → map node_view xs ≡ map view_of (map state xs)
  views [] = refl
  views (n ∷ ns) = ap (λ l. node_view n ∷ l) (views ns)

  module _ (disk : Disk D) (old new : List (LoggedNode D)) (stay : AllStay disk old new) where
    -- the nodes' states are the same
    pub same_states : map state new ≡ map state old
    same_states = ⊎_elim (λ e. ap (map state) e)
        (λ (o : OneStays disk old new).
        ap (map state) o.nodes
        ∙ map_set state old o.number o.after
        ∙ ap (slice_set (map state old) o.number) o.stays.state
        ∙ set_again (map state old) o.number (state o.before)
        (get_map state old o.number o.before o.stood))
        stay

    pub same_count : length new ≡ length old
    same_count = ⊎_elim (λ e. ap length e)
        (λ (o : OneStays disk old new).
        ap length o.nodes ∙ length-set old o.number o.after) stay

    -- each node was there before, with the same state
    pub stood_before : (k : ℕ) (n : LoggedNode D) → slice_get new k ≡ Some n
        → (m : LoggedNode D) × (slice_get old k ≡ Some m) × (n.node ≡ m.node)
    stood_before k n at = ⊎_elim
        (λ e. (n, ap (λ l. slice_get l k) (sym e) ∙ at, refl))
        (λ (o : OneStays disk old new). elim (cases_eq k o.number) [
          | inl same ↦ (
            o.before,
            ap (slice_get old) same ∙ o.stood,
            sym (ap state (at_place old new o.number o.before o.after n o.stood o.nodes
                (ap (slice_get new) (sym same) ∙ at))) ∙ o.stays.state,
          )
          | inr other ↦ (n, off_place old new o.number k o.after n other o.nodes at, refl)
        ])
        stay

    -- Nothing was done to the disks.
    pub still_there : (on_logs : (k : ℕ) (n : LoggedNode D) → slice_get old k ≡ Some n
        → n.node.stopped ≡ false → disk.is_kept n.log.disk → IsOnLog disk.history n)
        → (k : ℕ) (before after : LoggedNode D)
        → slice_get old k ≡ Some before → slice_get new k ≡ Some after → disk.is_kept after.log.disk
        → disk.is_kept before.log.disk
        × (disk.history after.log.disk ≡ disk.history before.log.disk)
    still_there on_logs k before after stood at kept = ⊎_elim
        (λ e.
        let same : before ≡ after = one_there k before after stood (ap (λ l. slice_get l k) (sym e) ∙ at) in (
          subst (λ (n : LoggedNode D). disk.is_kept n.log.disk) (sym same) kept,
          ap (λ (n : LoggedNode D). disk.history n.log.disk) (sym same),
        ))
        (λ (o : OneStays disk old new). elim (cases_eq k o.number) [
          | inl same ↦
              let first : before ≡ o.before = one_there k before o.before stood
              (ap (slice_get old) same ∙ o.stood) in
              let last : o.after ≡ after = at_place old new o.number o.before o.after after o.stood
              o.nodes (ap (slice_get new) (sym same) ∙ at) in
              moved o before after first last kept
          | inr other ↦
              let same : before ≡ after = one_there k before after stood
              (off_place old new o.number k o.after after other o.nodes at) in (
                subst (λ (n : LoggedNode D). disk.is_kept n.log.disk) (sym same) kept,
                ap (λ (n : LoggedNode D). disk.history n.log.disk) (sym same),
              )
        ])
        stay
      where
        one_there : (k : ℕ) (a b : LoggedNode D) → slice_get old k ≡ Some a
            → slice_get old k ≡ Some b → a ≡ b
        one_there k a b first second =
            let known : ◌≡◌ {A = Option (LoggedNode D)} (Some a) (Some b) = sym first ∙ second in
            cc

        moved : (o : OneStays disk old new) (before after : LoggedNode D) → before ≡ o.before
            → o.after ≡ after → disk.is_kept after.log.disk
            → disk.is_kept before.log.disk
            × (disk.history after.log.disk ≡ disk.history before.log.disk)
        moved o before after first last kept =
            let kept_then : disk.is_kept o.after.log.disk =
            subst (λ (n : LoggedNode D). disk.is_kept n.log.disk) (sym last) kept in
            let kept_first : disk.is_kept o.before.log.disk = o.stays.kept kept_then in
            let on : IsOnLog disk.history o.before =
            on_logs o.number o.before o.stood o.up kept_first in
            let same : disk.history o.after.log.disk ≡ disk.history o.before.log.disk =
            (o.stays.on_log kept_then on).1 in (
              subst (λ (n : LoggedNode D). disk.is_kept n.log.disk) (sym first) kept_first,
              ap (λ (n : LoggedNode D). disk.history n.log.disk) (sym last)
                  ∙ same ∙ ap (λ (n : LoggedNode D). disk.history n.log.disk) (sym first),
            )

    -- Each node that is up is on its log, as before.
    pub on_logs_still : (on_logs : (k : ℕ) (n : LoggedNode D) → slice_get old k ≡ Some n
        → n.node.stopped ≡ false → disk.is_kept n.log.disk → IsOnLog disk.history n)
        → (k : ℕ) (n : LoggedNode D) → slice_get new k ≡ Some n → n.node.stopped ≡ false
        → disk.is_kept n.log.disk → IsOnLog disk.history n
    on_logs_still on_logs k n at up kept = ⊎_elim
        (λ e. on_logs k n (ap (λ l. slice_get l k) (sym e) ∙ at) up kept)
        (λ (o : OneStays disk old new). elim (cases_eq k o.number) [
          | inl same ↦
              let last : o.after ≡ n = at_place old new o.number o.before o.after n o.stood
              o.nodes (ap (slice_get new) (sym same) ∙ at) in
              let kept_then : disk.is_kept o.after.log.disk =
              subst (λ (n : LoggedNode D). disk.is_kept n.log.disk) (sym last) kept in
              subst (IsOnLog disk.history) last (o.stays.on_log kept_then
              (on_logs o.number o.before o.stood o.up (o.stays.kept kept_then))).0
          | inr other ↦
              on_logs k n (off_place old new o.number k o.after n other o.nodes at) up kept
        ])
        stay

-- ---- the cluster

module _ {D P : Type 0} (disk : Disk D) (port : Port P) (old new : ClusterState D P)
    (division : new.division ≡ old.division) (weights : new.weights ≡ old.weights)
    (still : StandsStill disk port (turning_of old) (turning_of new)) where
  pub is_same : IsSame old new
  is_same = record {
    nodes = same_states disk old.nodes new.nodes still.nodes;
    sent = still.sent;
    events = still.events;
    pending = still.pending;
  }

  pub are_untouched : AreOnLogs disk old → AreUntouched disk old new
  are_untouched on_logs = still_there disk old.nodes new.nodes still.nodes on_logs

  -- it is the same world
  pub still_world : (w : World) → IsWorldOf old w → IsWorldOf new w
  still_world w is = record {
    made = subst (λ d. IsMade d new.weights) (sym division)
        (subst (λ ws. IsMade old.division ws) (sym weights) is.made);
    led = subst (λ d. Leads (start d new.weights) (taken new) w) (sym division)
        (subst (λ ws. Leads (start old.division ws) (taken new) w) (sym weights)
        (subst (λ es. Leads (start old.division old.weights) es w)
        (ap (map event_view) (sym still.events)) is.led));
    nodes = is.nodes ∙ views old.nodes
        ∙ ap (map view_of) (sym (same_states disk old.nodes new.nodes still.nodes))
        ∙ sym (views new.nodes);
    sent = is.sent ∙ sym still.sent;
    know = λ k n at up.
        let b = stood_before disk old.nodes new.nodes still.nodes k n at in
        subst (λ (x : NodeState). x ≡ node_at w k (view_of x)) (sym b.2)
        (is.know k b.0 b.1 (ap (λ (x : NodeState). x.stopped) (sym b.2) ∙ up));
  }

  pub still_on_logs : AreOnLogs disk old → AreOnLogs disk new
  still_on_logs on_logs = on_logs_still disk old.nodes new.nodes still.nodes on_logs
