-- The step of a node in a world's state is one of the world.
use Rattle.std.proofs.Common.{◌≡◌, ◌⊎◌, ◌<◌, ◌&&◌, ℕ, Bool, true, false, not, nat_le, List, [], length, map, None, Some, Result, Ok, Err, Vec, IfErr, IfOk, OnErr, slice_get, slice_set, slice_index_or, refl, sym, ap, subst, ◌∙◌, arith, inl, inr, ⊎_elim, true≢false}
use Rattle.std.specs.declared.alloc.Global.{Global}
use Rattle.std.proofs.lemmas.Bool.{leb-false}
use Rattle.std.proofs.lemmas.List.{length-map, map-set}
use Rattle.std.proofs.lemmas.Option.{slice_get-get_or}
use Rattle.claims.proofs.Nodes.{get_set}
use Rattle.protocol.specs.Events as events
use Rattle.protocol.specs.Events.{Event, event_view, is_step}
use Rattle.protocol.specs.declared.event.Event as declared
use Rattle.faults.specs.Bytes.{Text}
use Rattle.one_list.proofs.nodes.NodeSteps.{by_step, note_answered, sends_answered}
use Rattle.one_list.proofs.uses.HostedNodes.{IsHosted, acts_there, refused_there, runs}
use Rattle.node.specs.Calls.{left_by}
use Rattle.node.specs.OnLog.{IsOnLog, LacksRoom}
use Rattle.node.specs.State.{LoggedNode, NodeState}
use Rattle.node.specs.Step.{Asked, IsAsked, Taken, Takes, after, note_in, sends_in, taken_by}
use Rattle.node.specs.declared.fault.NodeFault.{NodeFault}
use Rattle.node.specs.declared.fault.NodeFault.TheVariants as fault
use Rattle.package_record.specs.Content.{Content}
use Rattle.stable_record.specs.InMemory.{mem_history}
use Rattle.stable_record.specs.declared.mem_disk.MemDisk.{MemDisk}
use Rattle.world.specs.Happening.{Acts, IsRefusedByNode, IsUp, Steps, Stops, fault_before, is_bad_stop, is_restart, is_up, lacks_datagram, leaves_note, up_of}
use Rattle.world.specs.Lists.{IsListAfter}
use Rattle.world.specs.Sent.{with_sends}
use Rattle.world.specs.World.{World, WorldNode, member_at, node_at, up_node, with_node}
use Rattle.world.specs.declared.fault.WorldFault.TheVariants as worlds
use Rattle.simulator.specs.Effects.{Does, IsDoneBy, StepDoes}
use Rattle.simulator.specs.declared.event_effects.EventEffects.{EventEffects}
use Rattle.simulator.specs.declared.slot.Slot.{Slot}
use Rattle.simulator.specs.declared.slot.Slot.TheVariants.{Down, Up}
use Rattle.simulator.specs.declared.world_state.WorldState.{WorldState}
use Rattle.simulator.specs.inside.Asking.{CanBeAsked, asked_by, refused_by}
use Rattle.simulator.specs.inside.Deciding.{decision}
use Rattle.simulator.specs.inside.Standing.{IsReached, IsStanding, StandsOn, disk_of, node_view, world_of}
use Rattle.simulator.specs.inside.Tables.{AreListed, AreSame, list_in}
use Rattle.simulator.specs.inside.NodeSteps.{RefusesStep, TakesStep, with_decision}
use Rattle.simulator.specs.inside.Stops.{IsStopped}
use Rattle.simulator.proofs.Listing.{step_lists}
use Rattle.simulator.proofs.NodeStands.{is_full, lacks_room, same_so, stopped_so, took_so}
use Rattle.simulator.proofs.Taking.{told_so}
use Rattle.simulator.proofs.StateWith.{IsBut, put_again, standing_with, stands_there, world_with}
use Rattle.simulator.proofs.EventAsks.{NoneApplies, asks_so, can_be_asked, get_mapped, none_applies}

was_true : (b : Bool) → not b ≡ false → b ≡ true
was_true true e = refl
was_true false e = absurd (true≢false e)

-- a step is not a restart, and leaves its note
pub no_restart : (e : Event) → is_step e ≡ true → is_restart e ≡ false
no_restart (events.Claim n path host above) is = refl
no_restart (events.Built n path files) is = refl
no_restart (events.Failed n path) is = refl
no_restart (events.Nudge n) is = refl
no_restart (events.Ask n path) is = refl
no_restart (events.Deliver d n) is = refl
no_restart (events.Stop n) is = absurd (true≢false (sym is))
no_restart (events.StopIn e l) is = absurd (true≢false (sym is))
no_restart (events.Restart n) is = absurd (true≢false (sym is))

leaves_its_note : (e : Event) → is_step e ≡ true → leaves_note e ≡ true
leaves_its_note (events.Claim n path host above) is = refl
leaves_its_note (events.Built n path files) is = refl
leaves_its_note (events.Failed n path) is = refl
leaves_its_note (events.Nudge n) is = refl
leaves_its_note (events.Ask n path) is = refl
leaves_its_note (events.Deliver d n) is = refl
leaves_its_note (events.Stop n) is = absurd (true≢false (sym is))
leaves_its_note (events.StopIn e l) is = absurd (true≢false (sym is))
leaves_its_note (events.Restart n) is = absurd (true≢false (sym is))

-- ---- a state with another node at a place, and other tables

pub record IsWith (s t : WorldState) (k : ℕ) (x : Slot) : Type 0 where
  pub tree : t.tree ≡ s.tree
  pub units : t.units ≡ s.units
  pub weights : t.weights ≡ s.weights
  pub nodes : t.nodes.items ≡ slice_set s.nodes.items k x

module _ (s t : WorldState) (k : ℕ) (x : Slot) (is : IsWith s t k x) where
  views : map node_view t.nodes.items ≡ slice_set (map node_view s.nodes.items) k (node_view x)
  views = ap (map node_view) is.nodes ∙ map-set node_view s.nodes.items k x

  -- the world
  abbrev with_tables : World → List WorldNode → List Text → List Content → World
  with_tables w nodes texts packages =
      record w { nodes = nodes; sent = texts; agreed = packages }

  world_is : world_of t ≡ with_tables (world_of s)
      (slice_set (map node_view s.nodes.items) k (node_view x)) t.tables.sent
      (list_in t.tables)
  world_is =
      let nodes = views in
      λ i. record {
        division = is.units i;
        weights = is.weights i;
        nodes = nodes i;
        sent = t.tables.sent;
        agreed = list_in t.tables;
      }

  -- if the node and the tables are unchanged, so is the world
  stays : (y : Slot) → slice_get s.nodes.items k ≡ Some y → node_view x ≡ node_view y
      → AreSame s.tables t.tables → world_of t ≡ world_of s
  stays y there looks same =
      let nodes : slice_set (map node_view s.nodes.items) k (node_view x)
      ≡ map node_view s.nodes.items =
      ap (slice_set (map node_view s.nodes.items) k) looks
      ∙ put_again (map node_view s.nodes.items) k (node_view y)
      (get_mapped node_view s.nodes.items k y there) in
      let sent = same.sent in
      let list = same.list in
      world_is ∙ (λ i. with_tables (world_of s) (nodes i) (sent i) (list i))

  -- each node agrees with its disk, if this one does
  stands : IsStanding s → StandsOn (world_of s) k x → AreListed t.tables → IsStanding t
  stands standing here listed = record {
    tree = ap (λ (d : _). d.tree) is.units ∙ standing.tree ∙ sym is.tree;
    disks = λ j y e. stands_there (world_of s) (world_of t) j y is.units is.weights
        (⊎_elim
        (λ p. subst (λ i. StandsOn (world_of s) i y) (sym p.0)
        (subst (StandsOn (world_of s) k) (sym p.1) here))
        (λ p. standing.disks j y p.1)
        (get_set s.nodes.items k j x y
        (subst (λ (l : List Slot). slice_get l j ≡ Some y) is.nodes e)));
    listed = listed;
  }

-- what a step leaves, taken or not
pub record IsLeft (s : WorldState) (e : Event) (t : WorldState)
    (r : Result EventEffects NodeFault) : Type 0 where
  pub does : IfOk r (StepDoes (world_of s) e (world_of t))
  pub same : OnErr r (world_of t ≡ world_of s)
  pub refused : IfErr r
      (λ f. (f ≡ fault.Memory) ⊎ IsRefusedByNode (world_of s) e (refused_by f))
  pub standing : IsStanding t

-- ---- an event that may happen at a node that is up

module _ (s : WorldState) (e : Event) (may : fault_before (world_of s) e ≡ None)
    (none : is_restart e ≡ false) where
  there : NoneApplies (is_bad_stop e) (nat_le (length (world_of s).nodes) (events.node_of e))
      (not (is_restart e) && not (is_up (world_of s) (events.node_of e)))
      (is_restart e && is_up (world_of s) (events.node_of e)) (lacks_datagram (world_of s) e)
  there = none_applies (is_bad_stop e) (nat_le (length (world_of s).nodes) (events.node_of e))
      (not (is_restart e) && not (is_up (world_of s) (events.node_of e)))
      (is_restart e && is_up (world_of s) (events.node_of e)) (lacks_datagram (world_of s) e)
      (worlds.BadTrace 0) worlds.NoSuchNode worlds.NodeDown worlds.NodeUp worlds.NoSuchDatagram may

  -- there is such a node
  pub within : events.node_of e < length s.nodes.items
  within = omega (
    arith,
    leb-false (length (world_of s).nodes) (events.node_of e) there.second,
    length-map s.nodes.items node_view,
  )

  -- that is at the place
  pub at_place : (place : ℕ) → place ≡ events.node_of e → (x y : Slot)
      → x ≡ slice_index_or s.nodes.items place x → x ≡ y
      → slice_get s.nodes.items (events.node_of e) ≡ Some y
  at_place place same x y value is =
      slice_get-get_or s.nodes.items (events.node_of e) x within
      ∙ ap (λ z. Some z)
      (ap (λ p. slice_index_or s.nodes.items p x) (sym same) ∙ sym value ∙ is)

  -- and is up
  up_there : is_up (world_of s) (events.node_of e) ≡ true
  up_there = was_true (is_up (world_of s) (events.node_of e))
      (ap (λ b. not b && not (is_up (world_of s) (events.node_of e))) (sym none) ∙ there.third)

  pub never_down : (x : Slot) → slice_get s.nodes.items (events.node_of e) ≡ Some x
      → (node_view x).up ≡ false → ⊥
  never_down x at off = true≢false
      (sym up_there ∙ ap up_of (get_mapped node_view s.nodes.items (events.node_of e) x at) ∙ off)

-- ---- a stop between two steps

-- The state after a stop.
pub record IsDown (s : WorldState) (n : ℕ) (t : WorldState) : Type 0 where
  pub stops : Stops (world_of s) n (world_of t)
  pub standing : IsStanding t

pub is_down : (s : WorldState) (n : ℕ) → IsStanding s
    → fault_before (world_of s) (events.Stop n) ≡ None → (t : WorldState) → IsBut s t → IsStopped s.nodes.items t.nodes.items n → IsDown s n t
is_down s n standing may t but stopped = by stopped.node refl
  where
    by : (y : Slot) → stopped.node ≡ y → IsDown s n t
    by (Down r) is = absurd (never_down s (events.Stop n) may refl (Down r)
        (stopped.stood ∙ ap (λ z. Some z) is) refl)
    by (Up m) is =
        let at : slice_get s.nodes.items n ≡ Some (Up m) = stopped.stood ∙ ap (λ z. Some z) is in
        let left = stopped_so (world_of s) n m (standing.disks n (Up m) at) stopped.down
        (stopped.disk ∙ ap disk_of is) (stopped.notes ∙ ap (λ z. (node_view z).notes) is)
        (stopped.behind (ap (λ z. (node_view z).up) is)) in
        record {
          stops = record {
            node = up_node m.node;
            is_up = record {
              stands = get_mapped node_view s.nodes.items n (Up m) at;
              up = refl;
            };
            leaves = world_with s t but n (Down stopped.down) stopped.nodes
                ∙ ap (with_node (world_of s) n) left.view;
          };
          standing = standing_with s t but n (Down stopped.down) stopped.nodes standing left.left;
        }

-- so it happens if the event says so
abbrev pub with_nodes : WorldState → Vec Slot Global → WorldState
with_nodes s nodes = record s { nodes = nodes }

pub stop_is_down : (s : WorldState) (e : declared.Event) (n : ℕ) → e ≡ declared.Stop n
    → IsStanding s → fault_before (world_of s) (event_view e) ≡ None → (nodes : Vec Slot Global)
    → IsStopped s.nodes.items nodes.items n → IsDown s n (with_nodes s nodes)
stop_is_down s e n is standing may nodes stopped =
    is_down s n standing (subst (λ z. fault_before (world_of s) (event_view z) ≡ None) is may)
    (with_nodes s nodes) (record { tree = refl; units = refl; weights = refl; tables = refl })
    stopped

pub stop_does : (s : WorldState) (e : declared.Event) (n : ℕ) → e ≡ declared.Stop n
    → IsStanding s → fault_before (world_of s) (event_view e) ≡ None → (nodes : Vec Slot Global)
    → IsStopped s.nodes.items nodes.items n → (done : EventEffects) → IsDoneBy None [] done
    → Does (world_of s) (event_view e) (world_of (with_nodes s nodes)) done
stop_does s e n is standing may nodes stopped done nothing =
    subst (λ z. Does (world_of s) (event_view z) (world_of (with_nodes s nodes)) done) (sym is)
    (record {
      stops = (stop_is_down s e n is standing may nodes stopped).stops;
      is_done = nothing;
    })

-- ---- a step that may be taken

-- which does so
steps_do : (w v : World) (e : Event) → is_step e ≡ true → (done : EventEffects)
    → StepDoes w e v done → Does w e v done
steps_do w v (events.Claim n path host above) is done s = s
steps_do w v (events.Built n path files) is done s = s
steps_do w v (events.Failed n path) is done s = s
steps_do w v (events.Nudge n) is done s = s
steps_do w v (events.Ask n path) is done s = s
steps_do w v (events.Deliver d n) is done s = s
steps_do w v (events.Stop n) is done s = absurd (true≢false (sym is))
steps_do w v (events.StopIn e l) is done s = absurd (true≢false (sym is))
steps_do w v (events.Restart n) is done s = absurd (true≢false (sym is))

pub ok_steps_do : (w v : World) (e : Event) → is_step e ≡ true
    → (r : Result EventEffects NodeFault) → IfOk r (StepDoes w e v) → IfOk r (Does w e v)
ok_steps_do w v e is (Ok done) s = steps_do w v e is done s
ok_steps_do w v e is (Err f) s = tt

module _ (s : WorldState) (e : Event) (standing : IsStanding s) (reached : IsReached (world_of s))
    (may : fault_before (world_of s) e ≡ None) (is_a_step : is_step e ≡ true) where
  abbrev w : World
  w = world_of s

  abbrev k : ℕ
  k = events.node_of e

  abbrev nodes : List Slot
  nodes = s.nodes.items

  -- it can be asked
  pub can : CanBeAsked w.sent e
  can = can_be_asked w e is_a_step (there s e may (no_restart e is_a_step)).fifth

  module _ (n : LoggedNode MemDisk) (at : slice_get nodes k ≡ Some (Up n)) where
    -- it agrees with its log
    pub on_log : StandsOn w k (Up n)
    on_log = standing.disks k (Up n) at

    abbrev x : WorldNode
    x = up_node n.node

    is_up_there : IsUp w e x
    is_up_there = record { stands = get_mapped node_view nodes k (Up n) at; up = refl }

    hosted : IsHosted w k n.node
    hosted = record { stands = is_up_there.stands; is = on_log.0 }

    -- ---- refused

    -- what the node refuses is refused in the world, and changes nothing
    refused_so : (f : NodeFault) (asked : Asked) → asked_by w.sent e ≡ Some asked
        → Takes n.node asked (Err f) → (m : NodeState) → m ≡ left_by n.node asked f
        → (m ≡ n.node) × IsRefusedByNode w e (refused_by f)
    refused_so f asked asks takes m state =
        let r = refused_there w e n.node hosted reached.made reached.events reached.led may asked
        (asks_so w e asked asks) f takes m state in
        (r.0, told_so w e f (by_step n.node asked f (runs w k n.node on_log.0) takes) r.1)

    module _ (fits : (asked : Asked) → asked_by w.sent e ≡ Some asked → IsAsked asked)
        (m : LoggedNode MemDisk) where
      acts : (asked : Asked) → asked_by w.sent e ≡ Some asked → (t : Taken)
          → Takes n.node asked (Ok t) → Acts w e x t
      acts asked asks = acts_there w e n.node hosted asked (asks_so w e asked asks) (fits asked asks)

      pub is_refused : (f : NodeFault) → RefusesStep w.sent e n m f
          → (m.node ≡ n.node) × ((f ≡ fault.Memory) ⊎ IsRefusedByNode w e (refused_by f))
      is_refused f (inl memory) = (memory.1, inl memory.0)
      is_refused f (inr (inl none)) =
          let r = refused_so f none.asked none.asks none.refuses m.node none.leaves in
          (r.0, inr r.1)
      is_refused f (inr (inr full)) = (
        full.leaves,
        inr (inr (
          record {
            node = x;
            taken = full.taken;
            acts = acts full.asked full.asks full.taken full.takes;
            noted = leaves_its_note e is_a_step;
            full = is_full w k n on_log full.taken.answer.note full.lacks;
          },
          ap refused_by full.fault,
        )),
      )

      -- ---- taken

      module _ (t : WorldState) (is : IsWith s t k (Up m)) where
        pub is_taken : (done : EventEffects) → TakesStep s.weights e s.tables n t.tables m done
            → StepDoes w e (world_of t) done
        is_taken done took =
            let took_now = taken_by n.node took.ready in
            let here = taken_by (node_at w k x) took.ready in
            let same : took_now ≡ here =
            ap (λ (z : NodeState). taken_by z took.ready) on_log.0 in
            let acted = acts took.asked took.asks took_now took.takes in
            let note : took_now.answer.note ≡ note_in took.ready.step =
            note_answered n.node.member took.ready.step in
            let sends : took_now.answer.sends ≡ sends_in took.ready.step =
            sends_answered n.node.member took.ready.step in
            let list : list_in t.tables ≡ with_decision w.agreed (decision w.weights w.sent
            (member_at w k x) took.ready.step) =
            took.finished.list ∙ ap (λ (z : NodeState). with_decision w.agreed
            (decision w.weights w.sent z.member took.ready.step)) on_log.0 in
            let sent : t.tables.sent ≡ with_sends w.sent took_now.answer.sends =
            took.finished.sent ∙ ap (with_sends w.sent) (sym sends) in
            let left : m.node ≡ after (node_at w k x) took_now =
            took.finished.node ∙ ap (λ (z : NodeState). after z took_now) on_log.0 in
            record {
              steps = record {
                node = x;
                taken = took_now;
                acts = acted;
                room = λ full. took.finished.room (subst (LacksRoom n.log) note
                    (lacks_room w k n on_log took_now.answer.note full));
                list = subst (IsListAfter w (with_sends w.sent took_now.answer.sends)) (sym list)
                    (step_lists w reached e is_a_step x took_now acted took.ready same);
                leaves = world_is s t k (Up m) is
                    ∙ (λ i. with_tables s t k (Up m) is w
                    (slice_set (map node_view nodes) k (up_node (left i)))
                    (sent i) (list_in t.tables));
              };
              is_done = subst (λ noted. IsDoneBy noted took_now.answer.sends done) (sym note)
                  (subst (λ out. IsDoneBy (note_in took.ready.step) out done) (sym sends)
                  took.finished.is_done);
            }

        pub is_left : (r : Result EventEffects NodeFault)
            → IfOk r (TakesStep s.weights e s.tables n t.tables m)
            → OnErr r (AreSame s.tables t.tables) → IfErr r (RefusesStep w.sent e n m)
            → IsOnLog mem_history m → AreListed t.tables → IsLeft s e t r
        is_left (Ok done) took same refused log listed = record {
          does = is_taken done took;
          same = tt;
          refused = tt;
          standing = stands s t k (Up m) is standing
              (took_so w k n on_log (taken_by n.node took.ready) m took.finished.node log) listed;
        }
        is_left (Err f) took same refused log listed =
            let r = is_refused f refused in
            record {
              does = tt;
              same = stays s t k (Up m) is (Up n) at (ap up_node r.0) same;
              refused = r.1;
              standing = stands s t k (Up m) is standing (same_so w k n on_log m r.0 log) listed;
            }
