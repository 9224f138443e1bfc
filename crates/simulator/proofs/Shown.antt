-- What a world shows of a node.
use Rattle.std.proofs.Common.{◌≡◌, ◌+◌, ◌<◌, ◌≤◌, ℕ, true, false, List, [], ◌∷◌, ◌++◌, length, map, Some, option_map, slice_get, sym, ap, subst, ◌∙◌, arith, length-append, ⊎_elim}
use Rattle.std.proofs.lemmas.Bool.{cases_lt}
use Rattle.std.proofs.lemmas.List.{length-map, length-replicate}
use Rattle.claims.specs.Claim.{most_members}
use Rattle.one_list.proofs.matching.LawfulMatch.{few_members}
use Rattle.std.proofs.lemmas.Option.{slice_get-map, slice_get_past}
use Rattle.node.specs.OnLog.{identity, identity_of, texts_of}
use Rattle.node.specs.State.{LoggedNode, NodeState}
use Rattle.stable_record.specs.Log.{HasNotes, entries, gate_place, header}
use Rattle.stable_record.specs.declared.identity.Identity.{Identity}
use Rattle.stable_record.specs.declared.mem_disk.MemDisk.{MemDisk}
use Rattle.world.specs.Happening.{up_of}
use Rattle.world.proofs.Growth.{leads_later}
use Rattle.world.specs.World.{World, WorldNode, fresh_node, node_at, start}
use Rattle.simulator.specs.History.{History, IsHistory, file_length, taken}
use Rattle.simulator.specs.declared.slot.Slot.{Slot}
use Rattle.simulator.specs.declared.slot.Slot.TheVariants.{Up, Down}
use Rattle.simulator.specs.declared.world_state.WorldState.{WorldState}
use Rattle.simulator.specs.inside.Standing.{IsStanding, StandsOn, disk_of, file_of, node_view, world_of}

-- the length of a file with these notes
notes_long : (i : Identity) (notes : List (List ℕ)) (file : List ℕ) (has : HasNotes i notes file)
    → length file ≡ gate_place i notes + 1 + length has.behind
notes_long i notes file has =
    omega (
      arith,
      ap length has.parts,
      length-append (header i ++ entries notes)
          (has.gate ∷ has.behind),
      length-append (header i) (entries notes),
    )

-- The file of a node that agrees with its disk has the length that the world says.
pub file_long : (w : World) (k : ℕ) (p : Slot) → StandsOn w k p
    → length (file_of (disk_of p)) ≡ file_length w k (node_view p)
file_long w k (Up n) stands =
    let s = stands.1.holds.settled in
    let texts = texts_of n.node.notes in
    let own : n.log.identity ≡ identity w.division.tree w.weights k = stands.1.owner
    ∙ ap (λ (m : NodeState). identity_of m.member) stands.0 in
    let long : length (file_of (disk_of (Up n))) ≡ gate_place n.log.identity texts + 1 + 0 =
    notes_long n.log.identity texts (file_of n.log.disk)
    (record {
      gate = s.gate;
      behind = [];
      parts = s.file;
      closed = s.closed;
      lengths =
          s.lengths;
    }) in
    long ∙ ap (λ (i : Identity). gate_place i texts + 1 + 0) own
file_long w k (Down r) stands =
    let i = identity w.division.tree w.weights k in
    notes_long i (texts_of (node_view (Down r)).notes) (file_of r.disk) stands.notes
    ∙ ap (λ (behind : List ℕ). gate_place i (texts_of (node_view (Down r)).notes) + 1 + length
    behind) stands.behind

-- ---- nodes of a world

-- the view of the element at the place
view_at : (nodes : List Slot) (k : ℕ) (p : Slot) (x : WorldNode) → slice_get nodes k ≡ Some p
    → slice_get (map node_view nodes) k ≡ Some x → node_view p ≡ x
view_at nodes k p x there e =
    let shown : Some (node_view p) ≡ Some x =
    sym (slice_get-map node_view nodes k ∙ ap (option_map node_view) there) ∙ e in cc

-- the number of a node that is up is that of a node
pub up_within : (nodes : List Slot) (k : ℕ) → up_of (slice_get (map node_view nodes) k) ≡ true
    → k < length nodes
up_within nodes k up = ⊎_elim
    (λ within. within)
    (λ past.
    let none : false ≡ true = sym (ap up_of (slice_get_past (map node_view nodes) k
    (omega (arith, past, length-map nodes node_view)))) ∙ up in
    absurd (let no : false ≡ true = none in cc))
    (cases_lt k (length nodes))

module _ (s : WorldState) (standing : IsStanding s) (k : ℕ) (x : WorldNode)
    (at : slice_get (world_of s).nodes k ≡ Some x) where
  -- The node that is up is the one that the world has.
  pub node_shown : (n : LoggedNode MemDisk) → slice_get s.nodes.items k ≡ Some (Up n)
      → n.node ≡ node_at (world_of s) k x
  node_shown n there =
      subst (λ y. n.node ≡ node_at (world_of s) k y) (view_at s.nodes.items k (Up n) x there at)
      (standing.disks k (Up n) there).0

  -- Its file has the length that the world says.
  pub file_shown : (p : Slot) → slice_get s.nodes.items k ≡ Some p
      → length (file_of (disk_of p)) ≡ file_length (world_of s) k x
  file_shown p there =
      file_long (world_of s) k p (standing.disks k p there)
      ∙ ap (file_length (world_of s) k) (view_at s.nodes.items k p x there at)

-- A world has few nodes.
pub few_nodes : (h : History) → IsHistory h → length h.world.nodes ≤ most_members
few_nodes h is =
    let later = leads_later (start h.world.division h.world.weights) h.world (taken h) is.led in
    omega (
      arith,
      later.nodes,
      length-replicate
          (length h.world.weights) fresh_node,
      few_members h.world.weights is.made.weigh,
    )
