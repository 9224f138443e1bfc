-- A stop inside a step, and why it may be refused.
use Rattle.std.proofs.Common.{◌≡◌, ◌⊎◌, ◌<◌, ℕ, true, false, not, nat_le, List, length, None, Some, Result, Ok, Err, slice_get, slice_set, refl, sym, ap, subst, ◌∙◌, arith, inl, inr, ⊎_elim}
use Rattle.std.proofs.lemmas.Bool.{leb-false, true≢false}
use Rattle.std.proofs.lemmas.Option.{slice_get_within}
use Rattle.std.proofs.lemmas.List.{length-map}
use Rattle.protocol.specs.Events as events
use Rattle.protocol.specs.Events.{Event, is_step}
use Rattle.protocol.specs.declared.event.Left.{Left}
use Rattle.one_list.proofs.nodes.NodeSteps.{by_step, note_answered}
use Rattle.one_list.proofs.nodes.EqualParts.{some_same}
use Rattle.one_list.proofs.uses.HostedNodes.{IsHosted, acts_there, refused_there as refused_in_world, runs}
use Rattle.node.specs.Calls.{left_by}
use Rattle.node.specs.OnLog.{IsOnLog, LacksRoom}
use Rattle.node.specs.State.{LoggedNode, NodeState}
use Rattle.node.specs.Step.{Asked, IsAsked, IsReadyFor, ReadyStep, Taken, Takes, note_in, taken_by}
use Rattle.node.specs.declared.fault.NodeFault.{NodeFault}
use Rattle.node.specs.declared.fault.NodeFault.TheVariants as fault
use Rattle.stable_record.specs.InMemory.{mem_history}
use Rattle.stable_record.specs.declared.mem_disk.MemDisk.{MemDisk}
use Rattle.world.specs.Happening.{Acts, HasRoomFor, IsRefusedByNode, IsUp, LogIsFull, StopsIn, fault_before, is_up, lacks_datagram, left_node, leaves_note, up_of}
use Rattle.world.specs.World.{World, WorldNode, up_node, with_node}
use Rattle.world.specs.declared.fault.WorldFault.TheVariants as worlds
use Rattle.simulator.specs.declared.slot.Slot.{Slot}
use Rattle.simulator.specs.declared.slot.Slot.TheVariants.{Down, Up}
use Rattle.simulator.specs.declared.slot.DownNode.{DownNode}
use Rattle.simulator.specs.declared.world_state.WorldState.{WorldState}
use Rattle.simulator.specs.inside.Asking.{CanBeAsked, IsReadied, asked_by, refused_by}
use Rattle.simulator.specs.inside.Standing.{IsReached, IsStanding, StandsOn, node_view, world_of}
use Rattle.simulator.specs.inside.Stops.{ReadiesStep, StandsReady}
use Rattle.simulator.proofs.NodeStands.{IsLeftAs, is_full, same_so}
use Rattle.simulator.proofs.Taking.{told_so}
use Rattle.simulator.proofs.StateWith.{IsBut, put_again, standing_with, world_with}
use Rattle.simulator.proofs.EventAsks.{NoneApplies, asks_so, can_be_asked, get_mapped, get_some, none_applies, not_false}

-- the node's refusal
abbrev refuses_with : NodeFault → Result Taken NodeFault
refuses_with f = Err f

refused_same : (f g : NodeFault) → refuses_with f ≡ refuses_with g → f ≡ g
refused_same f g e = cc

-- The node stopped inside this step, and each node agrees with its disk.
pub record DoesStop (s : WorldState) (e : Event) (l : Left) (r : ReadyStep) (t : WorldState) :
    Type 0 where
  pub stops : StopsIn (world_of s) e l (world_of t)
  pub noted : stops.taken.answer.note ≡ note_in r.step
  pub standing : IsStanding t

module _ (s : WorldState) (e : Event) (l : Left) (standing : IsStanding s)
    (reached : IsReached (world_of s))
    (may : fault_before (world_of s) (events.StopIn e l) ≡ None) where
  abbrev w : World
  w = world_of s

  abbrev k : ℕ
  k = events.node_of e

  abbrev nodes : List Slot
  nodes = s.nodes.items

  there : NoneApplies (not (is_step e)) (nat_le (length w.nodes) k) (not (is_up w k)) false
      (lacks_datagram w e)
  there = none_applies (not (is_step e)) (nat_le (length w.nodes) k) (not (is_up w k)) false
      (lacks_datagram w e) (worlds.BadTrace 0) worlds.NoSuchNode worlds.NodeDown worlds.NodeUp
      worlds.NoSuchDatagram may

  pub is_a_step : is_step e ≡ true
  is_a_step = not_false (is_step e) there.first

  pub can : CanBeAsked w.sent e
  can = can_be_asked w e is_a_step there.fifth

  its_place : (x : Slot) × (slice_get nodes k ≡ Some x)
  its_place = get_some nodes k
      (omega (arith, leb-false (length w.nodes) k there.second, length-map nodes node_view))

  pub within : k < length nodes
  within = slice_get_within nodes k its_place.0 its_place.1

  -- a node that is up
  only_up : (x : Slot) → slice_get nodes k ≡ Some x → (n : LoggedNode MemDisk)
      × (slice_get nodes k ≡ Some (Up n))
  only_up (Up n) g = (n, g)
  only_up (Down r) g = absurd (true≢false (sym (not_false (is_up w k) there.third)
      ∙ ap up_of (get_mapped node_view nodes k (Down r) g)))

  pub its_node : (n : LoggedNode MemDisk) × (slice_get nodes k ≡ Some (Up n))
  its_node = only_up its_place.0 its_place.1

  abbrev n : LoggedNode MemDisk
  n = its_node.0

  is : StandsOn w k (Up n)
  is = standing.disks k (Up n) its_node.1

  -- the element at the place is that node
  pub at_place : (x : Slot) → slice_get nodes k ≡ Some x → x ≡ Up n
  at_place x g = some_same x (Up n) (sym g ∙ its_node.1)

  up_there : IsUp w e (up_node n.node)
  up_there = record { stands = get_mapped node_view nodes k (Up n) its_node.1; up = refl }

  hosted : IsHosted w k n.node
  hosted = record { stands = up_there.stands; is = is.0 }

  -- ---- made ready

  -- making a step ready leaves the node unchanged
  record IsSameReady (x : Slot) (r : ReadyStep) : Type 0 where
    same : x ≡ Up n
    is_ready : IsReadyFor n.node r
    asked : Asked
    asks : asked_by w.sent e ≡ Some asked
    takes : Takes n.node asked (Ok (taken_by n.node r))

  ready_same : (x : Slot) (r : ReadyStep) → ReadiesStep w.sent e (Up n) x (Ok r)
      → IsSameReady x r
  ready_same (Down d) r h = absurd h
  ready_same (Up m) r h = by h.step
    where
      by : IsReadied w.sent e n.node m.node (Ok (taken_by n.node r)) → IsSameReady (Up m) r
      by (inl p) = absurd (let wrong : Ok (taken_by n.node r) ≡ Err fault.Memory = p.0 in cc)
      by (inr (asked, asks, p)) = record {
        same = λ i. Up (record { node = p.state i; log = h.log i });
        is_ready = subst (λ (x : NodeState). IsReadyFor x r) p.state h.ready;
        asked = asked;
        asks = asks;
        takes = subst (Takes n.node asked) p.given p.takes;
      }

  -- what the node refuses is refused in the world, and changes nothing
  refused_so : (f : NodeFault) (asked : Asked) → asked_by w.sent e ≡ Some asked
      → Takes n.node asked (Err f) → (m : NodeState) → m ≡ left_by n.node asked f
      → (m ≡ n.node) × IsRefusedByNode w (events.StopIn e l) (refused_by f)
  refused_so f asked asks takes m state =
      let r = refused_in_world w (events.StopIn e l) n.node hosted reached.made reached.events
      reached.led may asked (asks_so w e asked asks) f takes m state in (
        r.0,
        told_so w (events.StopIn e l) f (by_step n.node asked f (runs w k n.node is.0) takes) r.1,
      )

  pub readied_refused : (x : Slot) (f : NodeFault) → ReadiesStep w.sent e (Up n) x (Err f)
      → (x ≡ Up n)
      × ((f ≡ fault.Memory) ⊎ IsRefusedByNode w (events.StopIn e l) (refused_by f))
  readied_refused (Down d) f h = absurd h
  readied_refused (Up m) f h = by h.step
    where
      same : m.node ≡ n.node → Up m ≡ Up n
      same e = λ i. Up (record { node = e i; log = h.log i })

      by : IsReadied w.sent e n.node m.node (Err f)
          → (Up m ≡ Up n)
          × ((f ≡ fault.Memory) ⊎ IsRefusedByNode w (events.StopIn e l) (refused_by f))
      by (inl p) = (same p.1, inl (refused_same f fault.Memory p.0))
      by (inr (asked, asks, p)) = ⊎_elim
          (λ memory. (same (p.state ∙ ap (left_by n.node asked) memory), inl memory))
          (λ right.
          let takes = subst (Takes n.node asked) right p.takes in
          let r = refused_so f asked asks takes m.node p.state in
          (same r.0, inr r.1))
          p.given

  -- ---- what is left

  -- the node is up again
  pub up_again : (t : WorldState) → IsBut s t → (m : LoggedNode MemDisk)
      → t.nodes.items ≡ slice_set nodes k (Up m) → m.node ≡ n.node → IsOnLog mem_history m
      → (world_of t ≡ w) × IsStanding t
  up_again t but m put same on_log = (
    world_with s t but k (Up m) put
        ∙ ap (λ (x : NodeState). with_node w k (up_node x)) same
        ∙ ap (λ (ns : List WorldNode). record w { nodes = ns })
        (put_again w.nodes k (up_node n.node) up_there.stands),
    standing_with s t but k (Up m) put standing (same_so w k n is m same on_log),
  )

  -- the step could not be made ready
  pub not_readied : (t : WorldState) → IsBut s t → (x : Slot) (f : NodeFault)
      → t.nodes.items ≡ slice_set nodes k x
      → ReadiesStep w.sent e (Up n) x (Err f)
      → (world_of t ≡ w) × IsStanding t
      × ((f ≡ fault.Memory) ⊎ IsRefusedByNode w (events.StopIn e l) (refused_by f))
  not_readied t but x f put h =
      let r = readied_refused x f h in
      let u = up_again t but n (put ∙ ap (slice_set nodes k) r.0) refl is.1 in
      (u.0, u.1, r.1)

  -- the step was made ready, and the nodes are unchanged
  pub readied_nodes : (x : Slot) (r : ReadyStep) → ReadiesStep w.sent e (Up n) x (Ok r)
      → slice_set nodes k x ≡ nodes
  readied_nodes x r h = ap (slice_set nodes k) (ready_same x r h).same
      ∙ put_again nodes k (Up n) its_node.1

  pub readied_stands : (x : Slot) (r : ReadyStep) → ReadiesStep w.sent e (Up n) x (Ok r)
      → StandsReady nodes k r
  readied_stands x r h = record {
    node = Up n;
    stands = its_node.1;
    ready = ((ready_same x r h).is_ready, is.1);
  }

  module _ (x : Slot) (r : ReadyStep) (h : ReadiesStep w.sent e (Up n) x (Ok r))
      (fits : (asked : Asked) → asked_by w.sent e ≡ Some asked → IsAsked asked) where
    abbrev took : Taken
    took = taken_by n.node r

    acts : Acts w e (up_node n.node) took
    acts =
        let t = ready_same x r h in
        acts_there w e n.node hosted t.asked (asks_so w e t.asked t.asks) (fits t.asked t.asks) took
        t.takes

    note_is : took.answer.note ≡ note_in r.step
    note_is = note_answered n.node.member r.step

    -- the node is down, and this is left of it
    pub down_so : (t : WorldState) → IsBut s t → (down : DownNode)
        → t.nodes.items ≡ slice_set nodes k (Down down)
        → IsLeftAs w k down (left_node l n.node.notes took.answer.note)
        → HasRoomFor w k (up_node n.node) l took.answer.note
        → DoesStop s e l r t
    down_so t but down put left room = record {
      stops = record {
        node = up_node n.node;
        taken = took;
        step = is_a_step;
        acts = acts;
        room = room;
        leaves = world_with s t but k (Down down) put ∙ ap (with_node w k) left.view;
      };
      noted = note_is;
      standing = standing_with s t but k (Down down) put standing left.left;
    }

    -- the log has no room for the note
    pub full_so : leaves_note (events.StopIn e l) ≡ true → LacksRoom n.log (note_in r.step)
        → LogIsFull w (events.StopIn e l)
    full_so noted lacks = record {
      node = up_node n.node;
      taken = took;
      acts = record {
        is_up = record { stands = up_there.stands; up = refl };
        asked = acts.asked;
        asks = acts.asks;
        can_be = acts.can_be;
        takes = acts.takes;
      };
      noted = noted;
      full = is_full w k n is took.answer.note
          (subst (LacksRoom n.log) (sym note_is) lacks);
    }
