-- A stop inside a step, by what is left of its note.
use Rattle.std.proofs.Common.{◌≡◌, ◌⊎◌, ◌++◌, ℕ, List, [], ◌∷◌, None, Some, Ok, slice_get, slice_set, refl, sym, ap, subst, ◌∙◌, inl, inr, ⊎_elim}
use Rattle.std.proofs.lemmas.List.{set-set}
use Rattle.protocol.specs.Events as events
use Rattle.protocol.specs.Events.{Event}
use Rattle.protocol.specs.declared.event.Left.{Left}
use Rattle.protocol.specs.declared.event.Left.TheVariants as left
use Rattle.one_list.proofs.nodes.NodeSteps.{note_answered}
use Rattle.one_list.proofs.nodes.EqualParts.{some_same}
use Rattle.node.specs.OnLog.{LacksRoom}
use Rattle.node.specs.State.{LoggedNode, NodeState, with_note}
use Rattle.node.specs.Step.{Asked, IsAsked, ReadyStep, taken_by}
use Rattle.node.specs.declared.fault.NodeFault.{NodeFault}
use Rattle.node.specs.declared.fault.NodeFault.TheVariants as fault
use Rattle.stable_record.specs.History.{stands}
use Rattle.stable_record.specs.declared.mem_disk.MemDisk.{MemDisk}
use Rattle.world.specs.Happening.{IsRefusedByNode, fault_before}
use Rattle.world.specs.World.{World, down_node}
use Rattle.simulator.specs.declared.slot.Slot.{Slot}
use Rattle.simulator.specs.declared.slot.Slot.TheVariants.{Down, Up}
use Rattle.simulator.specs.declared.slot.DownNode.{DownNode}
use Rattle.simulator.specs.declared.world_state.WorldState.{WorldState}
use Rattle.simulator.specs.inside.Asking.{asked_by, refused_by}
use Rattle.simulator.specs.inside.Standing.{IsReached, IsStanding, StandsOn, disk_of, file_of, node_view, world_of}
use Rattle.simulator.specs.inside.Stops.{IsNotStoppedWith, IsStopped, IsStoppedWith, ReadiesStep, TookNone, TookStep}
use Rattle.simulator.proofs.NodeStands.{IsLeftAs, lacks_room, stopped_so, took_so, torn_so}
use Rattle.simulator.proofs.StateWith.{IsBut, put_again, put_there}
use Rattle.simulator.proofs.StopsInside.{DoesStop, down_so, full_so, its_node, up_again, within}

-- the node at the place stopped there
record HasStoppedAt (w : World) (k : ℕ) (n : LoggedNode MemDisk) (old new : List Slot) : Type 0
  where
    down : DownNode
    nodes : new ≡ slice_set old k (Down down)
    left : IsLeftAs w k down (down_node n.node.notes [])

stopped_at : (w : World) (k : ℕ) (n : LoggedNode MemDisk) → StandsOn w k (Up n)
    → (old new : List Slot)
    → slice_get old k ≡ Some (Up n) → IsStopped old new k → HasStoppedAt w k n old new
stopped_at w k n is old new here h =
    let same : h.node ≡ Up n = some_same h.node (Up n) (sym h.stood ∙ here) in
    record {
      down = h.down;
      nodes = h.nodes;
      left = stopped_so w k n is h.down (h.disk ∙ ap disk_of same)
          (h.notes ∙ ap (λ x. (node_view x).notes) same)
          (h.behind (ap (λ x. (node_view x).up) same));
    }

module _ (s : WorldState) (e : Event) (standing : IsStanding s)
    (reached : IsReached (world_of s)) where
  pub stops_in : (l : Left) (may : fault_before (world_of s) (events.StopIn e l) ≡ None)
      → (x : Slot) (r : ReadyStep)
      → ReadiesStep (world_of s).sent e (Up (its_node s e l standing reached may).0) x (Ok r)
      → ((asked : Asked) → asked_by (world_of s).sent e ≡ Some asked → IsAsked asked)
      → (t : WorldState) → IsBut s t
      → IsStoppedWith l s.nodes.items t.nodes.items (events.node_of e) r
      → DoesStop s e l r t
  stops_in left.None may x r h fits t but stopped =
      let n = its_node s e left.None standing reached may in
      let is = standing.disks (events.node_of e) (Up n.0) n.1 in
      let d = stopped_at (world_of s) (events.node_of e) n.0 is s.nodes.items t.nodes.items n.1
      stopped in
      down_so s e left.None standing reached may x r h fits t but d.down d.nodes d.left tt
  stops_in (left.Torn torn) may x r h fits t but stopped =
      let n = its_node s e (left.Torn torn) standing reached may in
      let is = standing.disks (events.node_of e) (Up n.0) n.1 in
      let same : stopped.node ≡ Up n.0 = some_same stopped.node (Up n.0)
      (sym stopped.stood ∙ n.1) in
      down_so s e (left.Torn torn) standing reached may x r h fits t but stopped.down stopped.nodes
      (torn_so (world_of s) (events.node_of e) n.0 is torn stopped.down
      (stopped.disk ∙ ap (λ y. stands (file_of (disk_of y) ++ torn) ∷ []) same)
      (stopped.notes ∙ ap (λ y. (node_view y).notes) same) stopped.behind) tt
  stops_in left.Whole may x r h fits t but stopped =
      by stopped.then
      (subst (λ y. TookStep y r stopped.then) same stopped.took) stopped.stopped
    where
      n : (n : LoggedNode MemDisk) × (slice_get s.nodes.items (events.node_of e) ≡ Some (Up n))
      n = its_node s e left.Whole standing reached may

      is : StandsOn (world_of s) (events.node_of e) (Up n.0)
      is = standing.disks (events.node_of e) (Up n.0) n.1

      same : stopped.node ≡ Up n.0
      same = some_same stopped.node (Up n.0) (sym stopped.stood ∙ n.1)

      by : (y : Slot) → TookStep (Up n.0) r y
          → IsStopped (slice_set s.nodes.items (events.node_of e) y) t.nodes.items
          (events.node_of e)
          → DoesStop s e left.Whole r t
      by (Down d) took stop = absurd took
      by (Up m) took stop =
          let is_then = took_so (world_of s) (events.node_of e) n.0 is (taken_by n.0.node r) m
          took.node took.on_log in
          let d = stopped_at (world_of s) (events.node_of e) m is_then
          (slice_set s.nodes.items (events.node_of e) (Up m)) t.nodes.items
          (put_there s.nodes.items (events.node_of e) (Up m)
          (within s e left.Whole standing reached may))
          stop in
          let notes : m.node.notes ≡ with_note n.0.node.notes (taken_by n.0.node r).answer.note =
          ap (λ (x : NodeState). x.notes) took.node in
          down_so s e left.Whole standing reached may x r h fits t but d.down
          (d.nodes ∙ set-set s.nodes.items (events.node_of e) (Up m) (Down d.down))
          (record {
            view = d.left.view ∙ ap (λ ns. down_node ns []) notes;
            left = d.left.left;
          })
          (λ full. took.room (subst (LacksRoom n.0.log)
          (note_answered n.0.node.member r.step)
          (lacks_room (world_of s) (events.node_of e) n.0 is (taken_by n.0.node r).answer.note
          full)))

  pub stops_not : (l : Left) (may : fault_before (world_of s) (events.StopIn e l) ≡ None)
      → (x : Slot) (r : ReadyStep)
      → ReadiesStep (world_of s).sent e (Up (its_node s e l standing reached may).0) x (Ok r)
      → ((asked : Asked) → asked_by (world_of s).sent e ≡ Some asked → IsAsked asked)
      → (t : WorldState) → IsBut s t → (f : NodeFault)
      → IsNotStoppedWith l s.nodes.items t.nodes.items (events.node_of e) r f
      → (world_of t ≡ world_of s) × IsStanding t
      × ((f ≡ fault.Memory) ⊎ IsRefusedByNode (world_of s) (events.StopIn e l) (refused_by f))
  stops_not left.None may x r h fits t but f none = absurd none
  stops_not (left.Torn torn) may x r h fits t but f none =
      let n = its_node s e (left.Torn torn) standing reached may in
      let is = standing.disks (events.node_of e) (Up n.0) n.1 in
      let u = up_again s e (left.Torn torn) standing reached may t but n.0
      (none.0 ∙ sym (put_again s.nodes.items (events.node_of e) (Up n.0) n.1)) refl is.1 in
      (u.0, u.1, inl none.1)
  stops_not left.Whole may x r h fits t but f none =
      by none.then (subst (λ y. TookNone y r none.then f) same none.none) none.nodes
    where
      n : (n : LoggedNode MemDisk) × (slice_get s.nodes.items (events.node_of e) ≡ Some (Up n))
      n = its_node s e left.Whole standing reached may

      same : none.node ≡ Up n.0
      same = some_same none.node (Up n.0) (sym none.stood ∙ n.1)

      by : (y : Slot) → TookNone (Up n.0) r y f
          → t.nodes.items ≡ slice_set s.nodes.items (events.node_of e) y
          → (world_of t ≡ world_of s) × IsStanding t
          × ((f ≡ fault.Memory)
          ⊎ IsRefusedByNode (world_of s) (events.StopIn e left.Whole) (refused_by f))
      by (Down d) stays put = absurd stays
      by (Up m) stays put =
          let u = up_again s e left.Whole standing reached may t but m put stays.node
          stays.on_log in (
            u.0,
            u.1,
            ⊎_elim (λ memory. inl memory)
                (λ full. inr (inr (
                  full_so s e left.Whole standing reached may x r h fits refl full.1,
                  ap refused_by full.0,
                )))
                stays.cause,
          )
