-- Nodes at the start agree with their disks.
use Rattle.std.proofs.Common.{◌≡◌, ◌⊎◌, inl, inr, ⊎_elim, ◌++◌, ℕ, zero, suc, List, [], ◌∷◌, length, map, replicate, None, Some, Ok, Err, Result, IfOk, slice_get, refl, sym, ap, subst, ◌∙◌, arith}
use Rattle.ballots.specs.declared.message.Note.{Note}
use Rattle.faults.specs.Bytes.{Text}
use Rattle.listing.specs.Tree.{Tree}
use Rattle.node.proofs.Opened.{one_way}
use Rattle.node.specs.OnLog.{identity_of, texts_of}
use Rattle.node.specs.State.{LoggedNode, NodeState, opened_node}
use Rattle.protocol.specs.State.{Value}
use Rattle.stable_record.specs.Opening.{Opens}
use Rattle.stable_record.specs.declared.identity.Identity.{Identity}
use Rattle.stable_record.specs.declared.mem_disk.MemDisk.{MemDisk}
use Rattle.engine.specs.Division.{Division, IsDivision}
use Rattle.world.specs.World.{World, fresh_node, node_at, start, up_node}
use Rattle.simulator.specs.declared.slot.Slot.{Slot}
use Rattle.simulator.specs.declared.slot.Slot.TheVariants.{Up, Down}
use Rattle.simulator.specs.declared.world_state.WorldState.{WorldState}
use Rattle.simulator.specs.inside.Opening.{IsNodeOf}
use Rattle.simulator.specs.inside.Standing.{IsStanding, StandsOn, node_view, world_of}
use Rattle.simulator.specs.inside.Tables.{AreListed, list_in}
use Rattle.simulator.specs.inside.Starting.{AreFresh, IsFresh, IsUpFresh}

-- ---- an empty file

-- a file without bytes has no notes
no_notes : (i : Identity) (texts : List (List ℕ)) → Opens i [] (Ok texts) → texts ≡ []
no_notes i texts (inl blank) = blank.1
no_notes i texts (inr notes) = absurd (omega (arith, ap length notes.parts))

-- without texts there are no notes
none_spelled : (notes : List (Note Value)) → texts_of notes ≡ [] → notes ≡ []
none_spelled [] e = refl
none_spelled (n ∷ ns) e = absurd (omega (arith, ap length e))

-- ---- nodes that are fresh

-- the node of a file without bytes
is_fresh : (tree : Tree) (weights : List ℕ) (me : ℕ) (n : LoggedNode MemDisk)
    → IsNodeOf tree weights me [] n → IsFresh tree weights me n
is_fresh tree weights me n is = record {
  opened = is.opened;
  empty = none_spelled n.node.notes
      (no_notes (identity_of n.node.member) (texts_of n.node.notes) is.notes);
  on_log = is.on_log;
}

pub fresh_of : {E : Type 0} (tree : Tree) (weights : List ℕ) (me : ℕ) (file : Text) → file ≡ []
    → (result : Result (LoggedNode MemDisk) E) → IfOk result (IsNodeOf tree weights me file)
    → IfOk result (IsFresh tree weights me)
fresh_of tree weights me file empty (Ok n) is =
    is_fresh tree weights me n (subst (λ (f : Text). IsNodeOf tree weights me f n) empty is)
fresh_of tree weights me file empty (Err e) is = tt

module _ (tree : Tree) (weights : List ℕ) (d : Division) (of_tree : d.tree ≡ tree)
    (divided : IsDivision d) where
  -- a fresh node is the one over this division
  fresh_is : (me : ℕ) (n : LoggedNode MemDisk) → IsFresh tree weights me n
      → n.node ≡ opened_node d weights me []
  fresh_is me n is =
      let o = is.opened in
      let same : o.division ≡ d = one_way o.division d
      (o.of_tree ∙ sym of_tree) o.divided divided in
      o.node ∙ (λ i. opened_node (same i) weights me (is.empty i))

  -- the world sees it as a fresh node
  pub seen_fresh : (me : ℕ) (x : Slot) → IsUpFresh tree weights me x → node_view x ≡ fresh_node
  seen_fresh me (Up n) is = ap up_node (fresh_is me n is)
  seen_fresh me (Down r) is = absurd is

  -- it agrees with its disk
  pub fresh_stands : (w : World) → w.division ≡ d → w.weights ≡ weights → (me : ℕ) (x : Slot)
      → IsUpFresh tree weights me x → StandsOn w me x
  fresh_stands w ed ew me (Up n) is =
      let right : (m : NodeState) → m ≡ opened_node d weights me [] → m ≡ node_at w me (up_node m) =
      λ m e. subst (λ (o : NodeState). o ≡ node_at w me (up_node o)) (sym e)
      (λ i. opened_node (sym ed i) (sym ew i) me []) in
      (right n.node (fresh_is me n is), is.on_log)
  fresh_stands w ed ew me (Down r) is = absurd is

-- elements that all have the same view
alike : {X Y : Type 0} (f : X → Y) (y : Y) (xs : List X)
    → ((k : ℕ) (x : X) → slice_get xs k ≡ Some x → f x ≡ y) → map f xs ≡ replicate (length xs) y
alike f y [] same = refl
alike f y (x ∷ xs) same = λ i. same 0 x refl i ∷ alike f y xs (λ k. same (suc k)) i

-- the nodes at the start
pub all_fresh : (tree : Tree) (weights : List ℕ) (d : Division) → d.tree ≡ tree → IsDivision d
    → (nodes : List Slot) → AreFresh tree weights nodes
    → map node_view nodes ≡ replicate (length weights) fresh_node
all_fresh tree weights d of_tree divided nodes are =
    alike node_view fresh_node nodes (λ k x at. seen_fresh tree weights d of_tree divided k x
    (are.each k x at))
    ∙ ap (λ n. replicate n fresh_node) are.count

-- ---- one node more

one_node : {X : Type 0} (xs : List X) (y x : X) (k : ℕ) → slice_get (xs ++ y ∷ []) k ≡ Some x
    → (slice_get xs k ≡ Some x) ⊎ ((k ≡ length xs) × (y ≡ x))
one_node [] y x zero e = inr (refl, (let same : Some y ≡ Some x = e in cc))
one_node [] y x (suc k) e = absurd (let no : None ≡ Some x = e in cc)
one_node (z ∷ zs) y x zero e = inl e
one_node (z ∷ zs) y x (suc k) e = ⊎_elim (λ old. inl old) (λ new. inr (ap suc new.0, new.1))
    (one_node zs y x k e)

-- fresh nodes with the next one added are fresh
pub fresh_more : (tree : Tree) (weights : List ℕ) (nodes now : List Slot) (n : LoggedNode MemDisk)
    (me : ℕ)
    → ((k : ℕ) (x : Slot) → slice_get nodes k ≡ Some x → IsUpFresh tree weights k x)
    → length nodes ≡ me → IsFresh tree weights me n → now ≡ nodes ++ Up n ∷ []
    → (k : ℕ) (x : Slot) → slice_get now k ≡ Some x → IsUpFresh tree weights k x
fresh_more tree weights nodes now n me each count fresh is k x at = ⊎_elim
    (λ old. each k x old)
    (λ new. subst (λ y. IsUpFresh tree weights k y) new.1
    (subst (λ j. IsFresh tree weights j n) (sym (new.0 ∙ count)) fresh))
    (one_node nodes (Up n) x k (ap (λ l. slice_get l k) (sym is) ∙ at))

-- ---- the world at the start

module _ (s : WorldState) (tree : Tree) (weights : List ℕ) (of_tree : s.units.tree ≡ tree)
    (divided : IsDivision s.units) (weigh : s.weights ≡ weights)
    (fresh : AreFresh tree weights s.nodes.items) where
  pub world_starts : s.tables.sent ≡ [] → list_in s.tables ≡ []
      → world_of s ≡ start s.units weights
  world_starts es el = λ i. record {
    division = s.units;
    weights = weigh i;
    nodes = all_fresh tree weights s.units of_tree divided s.nodes.items fresh i;
    sent = es i;
    agreed = el i;
  }

  pub state_stands : s.tree ≡ tree → AreListed s.tables → IsStanding s
  state_stands own listed = record {
    tree = of_tree ∙ sym own;
    disks = λ k x at. fresh_stands tree weights s.units of_tree divided (world_of s) refl weigh k x
        (fresh.each k x at);
    listed = listed;
  }
