-- Stops and restarts preserve the invariant of nodes.
use Rattle.std.proofs.Common.{◌≡◌, ℕ, List, [], Some, None, slice_get, refl, sym, subst, arith, ⊎_elim, ◌∙◌}
use Rattle.std.specs.Prelude.{All}
use Rattle.std.proofs.lemmas.Bool.{true≢false}
use Rattle.std.proofs.lemmas.List.{length-set}
use Rattle.std.proofs.lemmas.List.Elements.{All-nil, All-weaker}
use Rattle.claims.proofs.Nodes.{get_set}
use Rattle.ballots.specs.declared.message.Message.{Message}
use Rattle.ballots.specs.declared.message.Note.{Note}
use Rattle.faults.specs.Bytes.{Text}
use Rattle.protocol.specs.Events as events
use Rattle.protocol.specs.Events.{Event}
use Rattle.protocol.specs.declared.event.Left.{Left}
use Rattle.protocol.specs.declared.event.Left.TheVariants as left
use Rattle.protocol.specs.State.{Value}
use Rattle.world.specs.Happening.{Restarts, Stops, StopsIn}
use Rattle.one_list.specs.Safety.{WasSentOf}
use Rattle.world.specs.World.{World, WorldNode, down_node, restarted_node, with_node}
use Rattle.one_list.specs.Local.{AreKept, AreLocal, IsLocal, IsOfUnit}

module _ (w : World) (k : ℕ) (y : WorldNode) where
  -- the invariant of a note doesn't depend on another node
  note_moves : (n : Note Value) → IsOfUnit w n → IsOfUnit (with_node w k y) n
  note_moves n o =
      record { note = o.note; unit = o.unit; of_unit = o.of_unit; claimers = o.claimers }

  notes_move : (notes : List (Note Value)) → All (IsOfUnit w) notes
      → All (IsOfUnit (with_node w k y)) notes
  notes_move notes are = All-weaker (IsOfUnit w) (IsOfUnit (with_node w k y)) note_moves notes are

  -- the invariant of a node doesn't depend on another node
  node_moves : (j : ℕ) (z : WorldNode) → IsLocal w j z → IsLocal (with_node w k y) j z
  node_moves j z l = record {
    notes = notes_move z.notes l.notes;
    claim = λ o e. let c = l.claim o e in record { is_open = c.is_open; progress = c.progress };
    pieces = record { sent = l.pieces.sent; once = l.pieces.once };
    down = l.down;
    up = l.up;
  }

  -- so all nodes satisfy the invariant if the replaced one does
  pub all_but_one : AreLocal w → IsLocal (with_node w k y) k y → AreLocal (with_node w k y)
  all_but_one local new = record {
    each = λ j z g. ⊎_elim
        (λ h. subst (λ (i : ℕ). IsLocal (with_node w k y) i z) (sym h.0)
        (subst (IsLocal (with_node w k y) k) (sym h.1) new))
        (λ h. node_moves j z (local.each j z h.1))
        (get_set w.nodes k j y z g);
    one_for_each = length-set w.nodes k y ∙ local.one_for_each;
  }

  -- a node that keeps only its notes
  pub no_pieces : AreKept (with_node w k y) []
  no_pieces = record {
    sent = All-nil (λ p. (m : Message Value) × WasSentOf w.sent m p);
    once = λ i j d lt within. absurd (omega (arith, within));
  }

none_is_some : {X : Type 0} (x : X) → None ≡ Some x → ⊥
none_is_some x e = cc

pub down_stays : (w : World) (k : ℕ) (x : WorldNode) (behind : Text) → slice_get w.nodes k ≡ Some x
    → AreLocal w
    → AreLocal (with_node w k (down_node x.notes behind))
down_stays w k x behind stands local = all_but_one w k (down_node x.notes behind) local (record {
  notes = notes_move w k (down_node x.notes behind) x.notes (local.each k x stands).notes;
  claim = λ o e. absurd (none_is_some o e);
  pieces = no_pieces w k (down_node x.notes behind);
  down = λ e. (refl, refl);
  up = λ e. absurd (true≢false (sym e));
})

pub restarted_stays : (w : World) (k : ℕ) (x : WorldNode) → slice_get w.nodes k ≡ Some x
    → AreLocal w
    → AreLocal (with_node w k (restarted_node x.notes))
restarted_stays w k x stands local = all_but_one w k (restarted_node x.notes) local (record {
  notes = notes_move w k (restarted_node x.notes) x.notes (local.each k x stands).notes;
  claim = λ o e. absurd (none_is_some o e);
  pieces = no_pieces w k (restarted_node x.notes);
  down = λ e. absurd (true≢false e);
  up = λ e. refl;
})

-- Stops and restarts preserve the invariant, and so do stops inside a step that leave nothing or
-- only a part of its note.
pub stop_keeps : (w v : World) (n : ℕ) → AreLocal w → Stops w n v → AreLocal v
stop_keeps w v n local s =
    subst AreLocal (sym s.leaves) (down_stays w n s.node [] s.is_up.stands local)

pub restart_keeps : (w v : World) (n : ℕ) → AreLocal w → Restarts w n v → AreLocal v
restart_keeps w v n local s =
    subst AreLocal (sym s.leaves) (restarted_stays w n s.node s.stands local)

pub cut_keeps : (w v : World) (e : Event) (l : Left) → AreLocal w → (l ≡ left.Whole → ⊥)
    → StopsIn w e l v → AreLocal v
cut_keeps w v e left.None local not_whole s =
    subst AreLocal (sym s.leaves) (down_stays w (events.node_of e) s.node [] s.acts.is_up.stands
    local)
cut_keeps w v e (left.Torn bytes) local not_whole s =
    subst AreLocal (sym s.leaves) (down_stays w (events.node_of e) s.node bytes s.acts.is_up.stands
    local)
cut_keeps w v e left.Whole local not_whole s = absurd (not_whole refl)
