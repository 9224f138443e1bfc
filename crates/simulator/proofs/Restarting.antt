-- A node that starts again is the one that its notes restore.
use Rattle.std.proofs.Common.{◌≡◌, ◌<◌, ℕ, false, nat_le, List, length, None, Some, Result, Ok, slice_get, slice_index_or, slice_set, refl, sym, ap, ap₂, subst, ◌∙◌, arith, inr}
use Rattle.std.specs.Prelude.{All}
use Rattle.std.proofs.lemmas.Bool.{leb-false, true≢false}
use Rattle.std.proofs.lemmas.List.{length-map, length-replicate}
use Rattle.std.proofs.lemmas.List.Elements.{All-weaker}
use Rattle.std.proofs.lemmas.Option.{slice_get_within}
use Rattle.faults.specs.Bytes.{Text}
use Rattle.ballots.specs.declared.message.Note.{Note}
use Rattle.protocol.specs.Events as events
use Rattle.one_list.proofs.nodes.EqualParts.{some_same}
use Rattle.one_list.proofs.clauses.OneListOfRuns.{each_run_is_acts}
use Rattle.one_list.specs.Local.{AreLocal, IsOfUnit}
use Rattle.listing.specs.Tree.{Tree}
use Rattle.node.proofs.Opened.{one_way}
use Rattle.node.proofs.Sent.{notes_again}
use Rattle.node.specs.OnLog.{identity, identity_of, texts_of}
use Rattle.node.specs.State.{LoggedNode, NodeState, opened_node}
use Rattle.node.specs.Noted.{notes_in}
use Rattle.protocol.specs.State.{Value}
use Rattle.stable_record.specs.Log.{HasNotes}
use Rattle.stable_record.specs.Opening.{Opens}
use Rattle.stable_record.specs.declared.identity.Identity.{Identity}
use Rattle.stable_record.specs.declared.log_fault.LogFault.{LogFault}
use Rattle.stable_record.specs.declared.mem_disk.MemDisk.{MemDisk}
use Rattle.engine.specs.Division.{Division, number_named}
use Rattle.wire.specs.Messages.{IsNote}
use Rattle.world.proofs.Growth.{leads_later}
use Rattle.world.specs.Happening.{Restarts, fault_before, is_up, up_of}
use Rattle.world.specs.World.{World, fresh_node, node_at, start, up_node, with_node}
use Rattle.world.specs.declared.fault.WorldFault.TheVariants as worlds
use Rattle.simulator.specs.declared.slot.Slot.{Slot}
use Rattle.simulator.specs.declared.slot.Slot.TheVariants.{Down, Up}
use Rattle.simulator.specs.declared.slot.DownNode.{DownNode}
use Rattle.simulator.specs.declared.world_state.WorldState.{WorldState}
use Rattle.simulator.specs.inside.Opening.{HasNode, IsNodeOf}
use Rattle.simulator.specs.inside.Standing.{HasLeft, IsReached, IsStanding, StandsOn, disk_of, file_of, node_view, down_view, world_of}
use Rattle.simulator.proofs.OnlyMemory.{notes_have_node}
use Rattle.simulator.proofs.PutBack.{stands_at}
use Rattle.simulator.proofs.StateWith.{IsBut, standing_with, world_with}
use Rattle.simulator.proofs.EventAsks.{NoneApplies, get_mapped, get_some, none_applies}

-- what a file opens as
abbrev opens_with : List Text → Result (List Text) LogFault
opens_with texts = Ok texts

same_texts : (a b : List Text) → opens_with a ≡ opens_with b → a ≡ b
same_texts a b e = cc

module _ (s : WorldState) (me : ℕ) (standing : IsStanding s) (reached : IsReached (world_of s))
    (may : fault_before (world_of s) (events.Restart me) ≡ None) where
  abbrev w : World
  w = world_of s

  abbrev nodes : List Slot
  nodes = s.nodes.items

  there : NoneApplies false (nat_le (length w.nodes) me) false (is_up w me) false
  there = none_applies false (nat_le (length w.nodes) me) false (is_up w me) false
      (worlds.BadTrace 0) worlds.NoSuchNode worlds.NodeDown worlds.NodeUp worlds.NoSuchDatagram may

  its_place : (x : Slot) × (slice_get nodes me ≡ Some x)
  its_place = get_some nodes me
      (omega (arith, leb-false (length w.nodes) me there.second, length-map nodes node_view))

  pub place_within : me < length nodes
  place_within = slice_get_within nodes me its_place.0 its_place.1

  -- there is a node for each weight
  pub member_within : me < length s.weights
  member_within =
      let later = leads_later (start w.division w.weights) w reached.events reached.led in
      omega (
        arith,
        place_within,
        later.nodes,
        length-map nodes node_view,
        length-replicate (length w.weights) fresh_node,
      )

  -- the node is down
  only_down : (x : Slot) → slice_get nodes me ≡ Some x → (r : DownNode)
      × (slice_get nodes me ≡ Some (Down r))
  only_down (Up n) g = absurd (true≢false (sym (ap up_of (get_mapped node_view nodes me (Up n) g))
      ∙ there.fourth))
  only_down (Down r) g = (r, g)

  pub its_down : (r : DownNode) × (slice_get nodes me ≡ Some (Down r))
  its_down = only_down its_place.0 its_place.1

  abbrev r : DownNode
  r = its_down.0

  -- the element at the place is what is left of it
  pub at_place : (x : Slot) → slice_get nodes me ≡ Some x → x ≡ Down r
  at_place x g = some_same x (Down r) (sym g ∙ its_down.1)

  left : HasLeft w me (down_view r) r.disk
  left = standing.disks me (Down r) its_down.1

  local : AreLocal w
  local = (each_run_is_acts w.division w.weights reached.events w reached.made reached.led).3

  of_units : All (IsOfUnit w) (down_view r).notes
  of_units =
      (local.each me (down_view r) (get_mapped node_view nodes me (Down r) its_down.1)).notes

  are_notes : All IsNote (down_view r).notes
  are_notes = All-weaker (IsOfUnit w) IsNote (λ n is. is.note) (down_view r).notes of_units

  -- so its file has a node
  has_node : HasNode s.tree s.weights me (file_of r.disk)
  has_node = subst (λ (t : Tree). HasNode t s.weights me (file_of r.disk)) standing.tree
      (notes_have_node w.division reached.made.divided s.weights me (file_of r.disk)
      (down_view r).notes left.notes are_notes
      (All-weaker (IsOfUnit w) (λ n. (u : ℕ) × (number_named w.division n.path ≡ Some u))
      (λ n is. (is.unit, is.of_unit)) (down_view r).notes of_units))

  module _ (n : LoggedNode MemDisk) (h : IsNodeOf s.tree s.weights me (file_of r.disk) n) where
    owner : identity_of n.node.member ≡ identity s.tree s.weights me
    owner = ap (λ (x : NodeState). identity_of x.member) h.opened.node
        ∙ ap (λ t. identity t s.weights me) h.opened.of_tree

    -- the notes are those that it left
    texts : texts_of n.node.notes ≡ texts_of (down_view r).notes
    texts = same_texts (texts_of n.node.notes) (texts_of (down_view r).notes)
        (h.one_answer.no_second (file_of r.disk) (Ok (texts_of n.node.notes))
        (Ok (texts_of (down_view r).notes))
        (subst (λ (i : Identity). Opens i (file_of r.disk) (Ok (texts_of n.node.notes))) owner
        h.notes)
        (inr (subst (λ (t : Tree). HasNotes (identity t s.weights me) (texts_of (down_view r).notes)
        (file_of r.disk)) standing.tree left.notes)))

    notes : n.node.notes ≡ (down_view r).notes
    notes = sym (notes_again n.node.notes h.opened.notes_are) ∙ ap notes_in texts
        ∙ notes_again (down_view r).notes are_notes

    division : h.opened.division ≡ w.division
    division = one_way h.opened.division w.division (h.opened.of_tree ∙ sym standing.tree)
        h.opened.divided reached.made.divided

    -- so it is the node that they restore
    opened : n.node ≡ opened_node w.division w.weights me (down_view r).notes
    opened = h.opened.node
        ∙ ap₂ (λ (d : Division) (ns : List (Note Value)). opened_node d w.weights me ns) division
        notes

    stands_again : StandsOn w me (Up n)
    stands_again = (
      subst (λ (x : NodeState). x ≡ node_at w me (up_node x)) (sym opened) refl,
      h.on_log,
    )

    pub restarts : (t : WorldState) → IsBut s t → t.nodes.items ≡ slice_set nodes me (Up n)
        → Restarts w me (world_of t) × IsStanding t
    restarts t but put = (
      record {
        node = down_view r;
        stands = get_mapped node_view nodes me (Down r) its_down.1;
        down = refl;
        leaves = world_with s t but me (Up n) put
            ∙ ap (λ (x : NodeState). with_node w me (up_node x)) opened;
      },
      standing_with s t but me (Up n) put standing stands_again,
    )

  -- the element that was read at the place
  module _ (old : Slot) (read : old ≡ slice_index_or nodes me old) where
    old_is : old ≡ Down r
    old_is = at_place old (stands_at nodes me old read place_within)

    pub has_node_there : HasNode s.tree s.weights me (file_of (disk_of old))
    has_node_there =
        subst (λ x. HasNode s.tree s.weights me (file_of (disk_of x))) (sym old_is) has_node

    pub restarts_there : (n : LoggedNode MemDisk)
        → IsNodeOf s.tree s.weights me (file_of (disk_of old)) n
        → (t : WorldState) → IsBut s t → t.nodes.items ≡ slice_set nodes me (Up n)
        → Restarts w me (world_of t) × IsStanding t
    restarts_there n h t but put = restarts n
        (subst (λ x. IsNodeOf s.tree s.weights me (file_of (disk_of x)) n) old_is h) t but put
