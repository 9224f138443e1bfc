-- A node that agrees with its log, and what a stop leaves of it.
use Rattle.std.proofs.Common.{◌≡◌, ℕ, List, [], ◌∷◌, ◌++◌, ◌-◌, length, length-append, append_assoc, append-nil, refl, sym, ap, subst, ◌∙◌, arith, Option}
use Rattle.std.proofs.lemmas.List.{drop_all, drop_at}
use Rattle.faults.specs.Bytes.{Text}
use Rattle.ballots.specs.declared.message.Note.{Note}
use Rattle.one_list.proofs.uses.HostedNodes.{after_stands, full_here, full_of_lack, full_there, lack_of_full, whose}
use Rattle.node.specs.OnLog.{IsFull, IsOnLog, LacksRoom, identity, identity_of, texts_of}
use Rattle.node.specs.State.{LoggedNode, NodeState}
use Rattle.node.specs.Step.{Taken, after}
use Rattle.node.specs.Noted.{notes_in}
use Rattle.stable_record.specs.Crash.{IsOnDisk}
use Rattle.stable_record.specs.History.{seen, stands}
use Rattle.stable_record.specs.InMemory.{mem_history}
use Rattle.protocol.specs.State.{Value}
use Rattle.stable_record.specs.Log.{entries, gate_place, header, log_file, open_gate}
use Rattle.stable_record.specs.declared.identity.Identity.{Identity}
use Rattle.stable_record.specs.declared.mem_disk.MemDisk.{MemDisk}
use Rattle.world.specs.World.{World, WorldNode, down_node, node_at, up_node}
use Rattle.simulator.specs.declared.slot.Slot.TheVariants.{Up}
use Rattle.simulator.specs.declared.slot.DownNode.{DownNode}
use Rattle.simulator.specs.inside.Standing.{HasLeft, StandsOn, file_of, last_bytes, down_view}

-- what is left is the world's node, and agrees with its disk
pub record IsLeftAs (w : World) (k : ℕ) (r : DownNode) (y : WorldNode) : Type 0 where
  pub view : down_view r ≡ y
  pub left : HasLeft w k (down_view r) r.disk

-- a disk with a file leaves exactly that
stands_on_disk : (disk : MemDisk) (file : List ℕ) → mem_history disk ≡ stands file ∷ []
    → IsOnDisk (mem_history disk)
stands_on_disk disk file e = subst IsOnDisk (sym e) (λ c left. left.0)

no_last : (bytes : List ℕ) → last_bytes 0 bytes ≡ []
no_last bytes = drop_all (length bytes - 0) bytes (omega arith)

last_again : (file torn : List ℕ) → last_bytes (length torn) (file ++ torn) ≡ torn
last_again file torn = drop_at file torn (length (file ++ torn) - length torn)
    (omega (arith, length-append file torn))

module _ (w : World) (k : ℕ) (n : LoggedNode MemDisk) (is : StandsOn w k (Up n)) where
  -- its log is the member's
  owner : n.log.identity ≡ identity w.division.tree w.weights k
  owner = is.1.owner ∙ whose w k n.node is.0

  -- and it ends after its notes
  end : n.log.end ≡ gate_place (identity_of n.node.member) (texts_of n.node.notes)
  end = is.1.holds.settled.place
      ∙ ap (λ (j : Identity). gate_place j (texts_of n.node.notes)) is.1.owner

  -- so it is full if the notes say so
  pub lacks_room : (o : Option (Note Value)) → IsFull (node_at w k (up_node n.node)) o
      → LacksRoom n.log o
  lacks_room o full = lack_of_full n end o (full_here w k n.node is.0 o full)

  pub is_full : (o : Option (Note Value)) → LacksRoom n.log o
      → IsFull (node_at w k (up_node n.node)) o
  is_full o lacks = full_there w k n.node is.0 o (full_of_lack n end o lacks)

  -- its file, with these bytes appended
  pub file_left : (torn : Text) (disk : MemDisk) → file_of disk ≡ file_of n.log.disk ++ torn
      → IsOnDisk (mem_history disk) → HasLeft w k (down_node n.node.notes torn) disk
  file_left torn disk same on_disk =
      let s = is.1.holds.settled in
      let texts : List Text = texts_of n.node.notes in
      record {
        notes = record {
          gate = s.gate;
          behind = torn;
          parts = same ∙ ap (λ f. f ++ torn) s.file
              ∙ append_assoc (open_gate ∷ header n.log.identity ++ entries texts) (s.gate ∷ []) torn
              ∙ ap (λ (j : Identity). log_file j texts (s.gate ∷ torn)) owner;
          closed = s.closed;
          lengths = s.lengths;
        };
        behind = refl;
        on_disk = on_disk;
      }

  -- it stopped between two steps
  pub stopped_so : (r : DownNode) → r.disk ≡ n.log.disk → notes_in r.noted.texts ≡ n.node.notes
      → r.behind ≡ 0 → IsLeftAs w k r (down_node n.node.notes [])
  stopped_so r disk notes none =
      let last : last_bytes r.behind (file_of r.disk) ≡ [] =
      ap (λ b. last_bytes b (file_of r.disk)) none ∙ no_last (file_of r.disk) in
      let view : down_view r ≡ down_node n.node.notes [] = λ i. down_node (notes i) (last i) in
      record {
        view = view;
        left = subst (λ (y : WorldNode). HasLeft w k y r.disk) (sym view)
            (file_left [] r.disk (ap file_of disk ∙ sym (append-nil (file_of n.log.disk)))
            (subst (λ (d : MemDisk). IsOnDisk (mem_history d)) (sym disk)
            is.1.holds.settled.on_disk));
      }

  -- it stopped in a write, which left these bytes
  pub torn_so : (torn : Text) (r : DownNode)
      → mem_history r.disk ≡ stands (file_of n.log.disk ++ torn) ∷ []
      → notes_in r.noted.texts ≡ n.node.notes → r.behind ≡ length torn
      → IsLeftAs w k r (down_node n.node.notes torn)
  torn_so torn r disk notes long =
      let file : file_of r.disk ≡ file_of n.log.disk ++ torn = ap seen disk in
      let last : last_bytes r.behind (file_of r.disk) ≡ torn =
      ap (λ b. last_bytes b (file_of r.disk)) long
      ∙ ap (last_bytes (length torn)) file ∙ last_again (file_of n.log.disk) torn in
      let view : down_view r ≡ down_node n.node.notes torn = λ i. down_node (notes i) (last i) in
      record {
        view = view;
        left = subst (λ (y : WorldNode). HasLeft w k y r.disk) (sym view)
            (file_left torn r.disk file
            (stands_on_disk r.disk (file_of n.log.disk ++ torn) disk));
      }

  -- it took a step
  pub took_so : (t : Taken) (m : LoggedNode MemDisk) → m.node ≡ after n.node t
      → IsOnLog mem_history m → StandsOn w k (Up m)
  took_so t m e on_log = (
    subst (λ (x : NodeState). x ≡ node_at w k (up_node x)) (sym e) (after_stands w k n.node is.0 t),
    on_log,
  )

  -- it is unchanged, and on its log
  pub same_so : (m : LoggedNode MemDisk) → m.node ≡ n.node → IsOnLog mem_history m
      → StandsOn w k (Up m)
  same_so m e on_log = (
    subst (λ (x : NodeState). x ≡ node_at w k (up_node x)) (sym e) is.0,
    on_log,
  )
