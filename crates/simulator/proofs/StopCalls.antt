-- A stop inside a step, by the calls that do it.
use Rattle.std.proofs.Common.{◌≡◌, ◌⊎◌, ◌<◌, ℕ, true, List, [], length, None, Some, Result, Ok, Err, IfErr, IfOk, OnErr, OnOk, slice_get, slice_index_or, slice_set, sym, ap, subst, ◌∙◌}
use Rattle.protocol.specs.Events as events
use Rattle.protocol.specs.Events.{Event}
use Rattle.protocol.specs.declared.event.Left.{Left}
use Rattle.node.specs.State.{LoggedNode}
use Rattle.node.specs.Step.{Asked, IsAsked, ReadyStep, note_in}
use Rattle.node.specs.declared.fault.NodeFault.{NodeFault}
use Rattle.node.specs.declared.fault.NodeFault.TheVariants as fault
use Rattle.stable_record.specs.declared.mem_disk.MemDisk.{MemDisk}
use Rattle.world.specs.Happening.{IsRefusedByNode, fault_before}
use Rattle.simulator.specs.Effects.{IsDoneBy, StopDoes, note_left}
use Rattle.simulator.specs.declared.event_effects.EventEffects.{EventEffects}
use Rattle.simulator.specs.declared.slot.Slot.{Slot}
use Rattle.simulator.specs.declared.slot.Slot.TheVariants.{Up}
use Rattle.simulator.specs.declared.world_state.WorldState.{WorldState}
use Rattle.simulator.specs.inside.Asking.{asked_by, refused_by}
use Rattle.simulator.specs.inside.Standing.{IsReached, IsStanding, node_view, world_of}
use Rattle.simulator.specs.inside.Stops.{IsNotStoppedWith, IsStoppedWith, ReadiesStep, StandsReady}
use Rattle.simulator.proofs.PutBack.{stands_at}
use Rattle.simulator.proofs.StateWith.{IsBut}
use Rattle.simulator.proofs.StopsInside.{DoesStop, at_place, its_node, not_readied, readied_nodes, readied_stands, within}
use Rattle.simulator.proofs.StopsByLeft.{stops_in, stops_not}

-- The call leaves the world in which the node stopped there, or the previous one.
pub record IsLeftIn (s : WorldState) (e : Event) (l : Left) (t : WorldState)
    (r : Result EventEffects NodeFault) : Type 0 where
  pub does : IfOk r (StopDoes (world_of s) e l (world_of t))
  pub same : OnErr r (world_of t ≡ world_of s)
  pub refused : IfErr r
      (λ f. (f ≡ fault.Memory) ⊎ IsRefusedByNode (world_of s) (events.StopIn e l) (refused_by f))
  pub standing : IsStanding t

module _ (s : WorldState) (e : Event) (l : Left) (standing : IsStanding s)
    (reached : IsReached (world_of s))
    (may : fault_before (world_of s) (events.StopIn e l) ≡ None)
    (place : ℕ) (place_is : place ≡ events.node_of e) (old : Slot)
    (read : old ≡ slice_index_or s.nodes.items place old) where
  abbrev its : (n : LoggedNode MemDisk) × (slice_get s.nodes.items (events.node_of e) ≡ Some (Up n))
  its = its_node s e l standing reached may

  pub in_nodes : place < length s.nodes.items
  in_nodes = subst (λ i. i < length s.nodes.items) (sym place_is)
      (within s e l standing reached may)

  old_is : old ≡ Up its.0
  old_is = at_place s e l standing reached may old
      (subst (λ i. slice_get s.nodes.items i ≡ Some old) place_is
      (stands_at s.nodes.items place old read in_nodes))

  pub is_on : (node_view old).up ≡ true
  is_on = ap (λ x. (node_view x).up) old_is

  module _ (x : Slot) where
    abbrev Readied : Result ReadyStep NodeFault → Type 0
    Readied result = ReadiesStep (world_of s).sent e old x result

    of_its : (result : Result ReadyStep NodeFault) → Readied result
        → ReadiesStep (world_of s).sent e (Up its.0) x result
    of_its result = subst (λ y. ReadiesStep (world_of s).sent e y x result) old_is

    abbrev then_nodes : List Slot
    then_nodes = slice_set s.nodes.items place x

    nodes_are : (r : ReadyStep) → Readied (Ok r) → then_nodes ≡ s.nodes.items
    nodes_are r h = ap (λ i. slice_set s.nodes.items i x) place_is
        ∙ readied_nodes s e l standing reached may x r (of_its (Ok r) h)

    pub refused_there : (f : NodeFault) → Readied (Err f) → (t : WorldState) → IsBut s t
        → t.nodes.items ≡ then_nodes
        → (world_of t ≡ world_of s) × IsStanding t
        × ((f ≡ fault.Memory) ⊎ IsRefusedByNode (world_of s) (events.StopIn e l) (refused_by f))
    refused_there f h t but put = not_readied s e l standing reached may t but x f
        (put ∙ ap (λ i. slice_set s.nodes.items i x) place_is) (of_its (Err f) h)

    pub ready_there : (r : ReadyStep) → Readied (Ok r) → StandsReady then_nodes place r
    ready_there r h = subst (λ (ns : List Slot). StandsReady ns place r) (sym (nodes_are r h))
        (subst (λ i. StandsReady s.nodes.items i r) (sym place_is)
        (readied_stands s e l standing reached may x r (of_its (Ok r) h)))

    module _ (r : ReadyStep) (h : Readied (Ok r))
        (fits : (asked : Asked) → asked_by (world_of s).sent e ≡ Some asked → IsAsked asked)
        (t : WorldState) (but : IsBut s t) where
      pub stops_there : IsStoppedWith l then_nodes t.nodes.items place r
          → DoesStop s e l r t
      stops_there stopped = stops_in s e standing reached l may x r (of_its (Ok r) h) fits t but
          (subst (λ (ns : List Slot). IsStoppedWith l ns t.nodes.items (events.node_of e) r)
          (nodes_are r h)
          (subst (λ i. IsStoppedWith l then_nodes t.nodes.items i r) place_is stopped))

      pub not_there : (f : NodeFault) → IsNotStoppedWith l then_nodes t.nodes.items place r f
          → (world_of t ≡ world_of s) × IsStanding t
          × ((f ≡ fault.Memory) ⊎ IsRefusedByNode (world_of s) (events.StopIn e l) (refused_by f))
      not_there f none = stops_not s e standing reached l may x r (of_its (Ok r) h) fits t but f
          (subst (λ (ns : List Slot). IsNotStoppedWith l ns t.nodes.items (events.node_of e) r f)
          (nodes_are r h)
          (subst (λ i. IsNotStoppedWith l then_nodes t.nodes.items i r f) place_is none))

      -- either way
      pub left_there : (result : Result EventEffects NodeFault)
          → IfOk result (IsDoneBy (note_left l (note_in r.step)) [])
          → OnOk result (IsStoppedWith l then_nodes t.nodes.items place r)
          → IfErr result (IsNotStoppedWith l then_nodes t.nodes.items place r)
          → IsLeftIn s e l t result
      left_there (Ok done) is_done stopped none =
          let left = stops_there stopped in record {
            does = record {
              stops = left.stops;
              is_done = subst (λ noted. IsDoneBy (note_left l noted) [] done) (sym left.noted)
                  is_done;
            };
            same = tt;
            refused = tt;
            standing = left.standing;
          }
      left_there (Err f) is_done stopped none =
          let left = not_there f none in
          record { does = tt; same = left.0; refused = left.2; standing = left.1 }
