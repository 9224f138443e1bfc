-- What a node shows, in the world that its cluster is.
use Rattle.std.proofs.Common.{◌≡◌, ◌∙◌, ℕ, Bool, true, false, [], Option, None, Some, MatchOption, ap, refl, slice_get, subst, sym, if◌then◌else◌}
use Rattle.std.proofs.lemmas.Option.{slice_get-map}
use Rattle.std.specs.Prelude.{option_map}
use Rattle.cluster_turns.specs.Here.{member_up}
use Rattle.engine.specs.State.{AreCounts}
use Rattle.engine.specs.declared.Counts.{Counts}
use Rattle.node.specs.State.{LoggedNode, NodeState}
use Rattle.protocol.specs.State.{State, engine_of}
use Rattle.cluster_turns.specs.State.{ClusterState, IsWorldOf, here_of, node_view}
use Rattle.check_turns.proofs.Going.{view_of}
use Rattle.check_turns.specs.Shown.{AreCountsAt, IsDownAt}
use Rattle.world.specs.Happening.{is_up, up_of}
use Rattle.world.specs.World.{World, WorldNode, down_node, member_at, up_node}

-- a node that is up in a world is up
pub up_there : (x : NodeState) (stopped : Bool) → x.stopped ≡ stopped → (view_of x).up ≡ true
    → x.stopped ≡ false
up_there x true down up =
    let no : false ≡ true =
    ap (λ (b : Bool). (if b then down_node x.notes [] else up_node x).up) (sym down) ∙ up in
    absurd (let bad : false ≡ true = no in cc)
up_there x false is up = is

-- and the other way round
view_up : (x : NodeState) → x.stopped ≡ false → (view_of x).up ≡ true
view_up x is = ap (λ (b : Bool). (if b then down_node x.notes [] else up_node x).up) is

view_down : (x : NodeState) → x.stopped ≡ true → (view_of x).up ≡ false
view_down x is = ap (λ (b : Bool). (if b then down_node x.notes [] else up_node x).up) is

module _ {D P : Type 0} (c : ClusterState D P) (w : World) (is : IsWorldOf c w) (k : ℕ) where
  -- the world's node is the cluster's
  pub stands_so : slice_get w.nodes k ≡ option_map node_view (slice_get c.nodes k)
  stands_so = ap (λ l. slice_get l k) is.nodes ∙ slice_get-map node_view c.nodes k

  shown_by : (o : Option (LoggedNode D)) → slice_get c.nodes k ≡ o → (s : State)
      → member_up o ≡ Some s → (counts : Counts) → AreCounts (engine_of s) counts
      → (x : WorldNode) × (slice_get w.nodes k ≡ Some x) × (x.up ≡ true)
      × AreCounts (engine_of (member_at w k x)) counts
  shown_by None at s up counts are =
      absurd (let no : ◌≡◌ {A = Option State} None (Some s) = up in cc)
  shown_by (Some n) at s up counts are = by n.node.stopped refl up
    where
      by : (b : Bool) → n.node.stopped ≡ b → (if b then None else Some n.node.member) ≡ Some s
          → (x : WorldNode) × (slice_get w.nodes k ≡ Some x) × (x.up ≡ true)
          × AreCounts (engine_of (member_at w k x)) counts
      by true down none =
          absurd (let no : ◌≡◌ {A = Option State} None (Some s) = none in cc)
      by false running member =
          let both : ◌≡◌ {A = Option State} (Some n.node.member) (Some s) = member in
          let same : n.node.member ≡ s = cc in
          let knows : n.node.member ≡ member_at w k (node_view n) =
          ap (λ (y : NodeState). y.member) (is.know k n at running) in (
            node_view n,
            stands_so ∙ ap (option_map node_view) at,
            view_up n.node running,
            subst (λ (m : State). AreCounts (engine_of m) counts) (sym same ∙ knows) are,
          )

  gone_by : (o : Option (LoggedNode D)) → slice_get c.nodes k ≡ o → member_up o ≡ None
      → is_up w k ≡ false
  gone_by None at none = ap up_of (stands_so ∙ ap (option_map node_view) at)
  gone_by (Some n) at none = by n.node.stopped refl none
    where
      by : (b : Bool) → n.node.stopped ≡ b → (if b then None else Some n.node.member) ≡ None
          → is_up w k ≡ false
      by true down gone =
          ap up_of (stands_so ∙ ap (option_map node_view) at) ∙ view_down n.node down
      by false running some =
          absurd (let no : ◌≡◌ {A = Option State} (Some n.node.member) None = some in cc)

-- the counts at a node are those of the world's node
pub shows : {D P : Type 0} (c : ClusterState D P) (k : ℕ) (o : Option Counts)
    → MatchOption o (here_of c k ≡ None)
    (λ counts. (s : State) × (here_of c k ≡ Some s) × AreCounts (engine_of s) counts)
    → MatchOption o (IsDownAt c k) (AreCountsAt c k)
shows c k None gone = λ w is. gone_by c w is k (slice_get c.nodes k) refl gone
shows c k (Some counts) (s, here, are) = λ w is.
    shown_by c w is k (slice_get c.nodes k) refl s here counts are
