-- A world's state with another node at a place.
use Rattle.std.proofs.Common.{◌≡◌, ◌<◌, [], ◌∷◌, ℕ, zero, suc, false, List, Some, length, map, slice_get, slice_set, refl, sym, ap, subst, ◌∙◌, ⊎_elim, arith}
use Rattle.std.proofs.lemmas.List.{map-set, set-get_or}
use Rattle.std.proofs.lemmas.Option.{get_or_from_slice_get}
use Rattle.claims.proofs.Nodes.{get_set}
use Rattle.node.specs.OnLog.{identity, texts_of}
use Rattle.protocol.specs.Restoring.{restored}
use Rattle.protocol.specs.State.{fresh}
use Rattle.stable_record.specs.Log.{log_file}
use Rattle.stable_record.specs.declared.identity.Identity.{Identity}
use Rattle.engine.specs.Division.{Division}
use Rattle.world.specs.World.{World, node_at, up_node, with_node}
use Rattle.simulator.specs.declared.slot.Slot.{Slot}
use Rattle.simulator.specs.declared.slot.Slot.TheVariants.{Down, Up}
use Rattle.simulator.specs.declared.world_state.WorldState.{WorldState}
use Rattle.simulator.specs.inside.Standing.{IsStanding, StandsOn, node_view, down_view, world_of}
use Rattle.simulator.specs.inside.Tables.{AreListed, list_in}

-- The states differ only in their nodes.
pub record IsBut (s t : WorldState) : Type 0 where
  pub tree : t.tree ≡ s.tree
  pub units : t.units ≡ s.units
  pub weights : t.weights ≡ s.weights
  pub tables : t.tables ≡ s.tables

-- the element at a place, put there again
pub put_again : {X : Type 0} (xs : List X) (k : ℕ) (x : X) → slice_get xs k ≡ Some x
    → slice_set xs k x ≡ xs
put_again xs k x e =
    ap (slice_set xs k) (sym (get_or_from_slice_get xs k x x e)) ∙ set-get_or xs k x

-- an element that was put at a place is there
pub put_there : {X : Type 0} (xs : List X) (k : ℕ) (x : X) → k < length xs
    → slice_get (slice_set xs k x) k ≡ Some x
put_there [] k x lt = absurd (omega (arith, lt))
put_there (y ∷ ys) zero x lt = refl
put_there (y ∷ ys) (suc k) x lt = put_there ys k x (omega (arith, lt))

-- whether a node agrees with its disk only depends on the tree's units and the weights
pub stands_there : (w v : World) (k : ℕ) (x : Slot) → v.division ≡ w.division
    → v.weights ≡ w.weights → StandsOn w k x → StandsOn v k x
stands_there w v k (Up n) units weights (is, on_log) =
    let same : node_at w k (up_node n.node) ≡ node_at v k (up_node n.node) =
    λ i. record {
      member = record (restored (fresh (sym units i) (sym weights i) k) n.node.notes)
          { claim = n.node.member.claim };
      notes = n.node.notes;
      pieces = n.node.pieces;
      stopped = false;
    } in
    (is ∙ same, on_log)
stands_there w v k (Down r) units weights left =
    let whose : identity w.division.tree w.weights k ≡ identity v.division.tree v.weights k =
    λ i. identity ((sym units i).tree) (sym weights i) k in
    record {
      notes = record {
        gate = left.notes.gate;
        behind = left.notes.behind;
        parts = left.notes.parts
            ∙ ap (λ (j : Identity). log_file j (texts_of (down_view r).notes)
            (left.notes.gate ∷ left.notes.behind)) whose;
        closed = left.notes.closed;
        lengths = left.notes.lengths;
      };
      behind = left.behind;
      on_disk = left.on_disk;
    }

module _ (s t : WorldState) (is : IsBut s t) (k : ℕ) (x : Slot)
    (put : t.nodes.items ≡ slice_set s.nodes.items k x) where
  -- the world
  pub world_with : world_of t ≡ with_node (world_of s) k (node_view x)
  world_with =
      let nodes : map node_view t.nodes.items
      ≡ slice_set (map node_view s.nodes.items) k (node_view x) =
      ap (map node_view) put ∙ map-set node_view s.nodes.items k x in
      λ i. record {
        division = is.units i;
        weights = is.weights i;
        nodes = nodes i;
        sent = (is.tables i).sent;
        agreed = list_in (is.tables i);
      }

  -- each node agrees with its disk, if this one does
  pub standing_with : IsStanding s → StandsOn (world_of s) k x → IsStanding t
  standing_with standing here = record {
    tree = ap (λ (d : Division). d.tree) is.units ∙ standing.tree ∙ sym is.tree;
    disks = λ j y e. stands_there (world_of s) (world_of t) j y is.units is.weights
        (⊎_elim
        (λ p. subst (λ i. StandsOn (world_of s) i y) (sym p.0)
        (subst (StandsOn (world_of s) k) (sym p.1) here))
        (λ p. standing.disks j y p.1)
        (get_set s.nodes.items k j x y
        (subst (λ (l : List Slot). slice_get l j ≡ Some y) put e)));
    listed = subst AreListed (sym is.tables) standing.listed;
  }
