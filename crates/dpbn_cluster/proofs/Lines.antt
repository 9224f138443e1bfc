-- The lines of a cluster's nodes are those of the world that it is.
use Rattle.std.proofs.Common.{◌≡◌, ◌∙◌, ℕ, Bool, true, false, List, [], Option, None, Some, MatchOption, length, slice_get, ap, sym, refl, subst, if◌then◌else◌}
use Rattle.std.proofs.lemmas.List.{length-replicate}
use Rattle.std.proofs.lemmas.Option.{slice_get-map}
use Rattle.std.specs.Prelude.{option_map}
use Rattle.cluster_turns.specs.Here.{member_up}
use Rattle.dpbn_cluster.specs.Cluster.{HasLines, IsShown}
use Rattle.dpbr_run.specs.Run.{IsNodeLine, letters_at}
use Rattle.dpbr_run.specs.shared.NodeLines.{HasNodeLines}
use Rattle.engine.specs.State as engines
use Rattle.engine.specs.State.{AreCounts}
use Rattle.engine.specs.declared.Counts.{Counts}
use Rattle.faults.specs.Bytes.{Text}
use Rattle.node.specs.State.{LoggedNode, NodeState}
use Rattle.program_io.specs.NodeLine.{IsLineOf, node_line}
use Rattle.protocol.specs.State.{State, engine_of}
use Rattle.cluster_turns.specs.State.{ClusterState, IsWorldOf, here_of, node_view, taken}
use Rattle.world.proofs.Growth.{leads_later}
use Rattle.world.specs.World.{World, WorldNode, down_node, fresh_node, member_at, node_at, start, up_node}

module _ {D P : Type 0} (c : ClusterState D P) (w : World) (is : IsWorldOf c w) where
  -- there is a node for each member
  node_count : length w.nodes ≡ length c.weights
  node_count =
      (leads_later (start c.division c.weights) w (taken c) is.led).nodes
      ∙ length-replicate (length c.weights) fresh_node

  module _ (k : ℕ) (x : WorldNode) (stands : slice_get w.nodes k ≡ Some x) where
    seen : Some x ≡ option_map node_view (slice_get c.nodes k)
    seen =
        sym stands
        ∙ (ap (λ l. slice_get l k) is.nodes ∙ slice_get-map node_view c.nodes k)

    by_state : (n : LoggedNode D) → slice_get c.nodes k ≡ Some n → x ≡ node_view n → (b : Bool)
        → n.node.stopped ≡ b
        → letters_at w k x ≡ option_map engine_of (if b then None else Some n.node.member)
    by_state n at same true down =
        ap (letters_at w k)
        (same ∙ ap (λ b. if b then down_node n.node.notes [] else up_node n.node) down)
    by_state n at same false up =
        let view = ap (λ b. if b then down_node n.node.notes [] else up_node n.node) up in
        let knows : n.node.member ≡ member_at w k (up_node n.node) =
        ap (λ (z : NodeState). z.member) (is.know k n at up ∙ ap (node_at w k) view) in
        ap (letters_at w k) (same ∙ view)
        ∙ ap (λ (m : State). Some (engine_of m)) (sym knows)

    letters_by : (o : Option (LoggedNode D)) → slice_get c.nodes k ≡ o
        → letters_at w k x ≡ option_map engine_of (member_up o)
    letters_by None at =
        let bad : ◌≡◌ {A = Option WorldNode} (Some x) None = seen ∙ ap (option_map node_view) at in
        absurd (let no : ◌≡◌ {A = Option WorldNode} (Some x) None = bad in cc)
    letters_by (Some n) at =
        let both : ◌≡◌ {A = Option WorldNode} (Some x) (Some (node_view n)) =
        seen ∙ ap (option_map node_view) at in
        let same : x ≡ node_view n = cc in
        by_state n at same n.node.stopped refl

    -- what the node shows is what its member shows, if it is up
    letters : letters_at w k x ≡ option_map engine_of (here_of c k)
    letters = letters_by (slice_get c.nodes k) refl

  pub line_is : (k : ℕ) (o : Option Counts)
      → MatchOption o (here_of c k ≡ None)
      (λ counts. (s : State) × (here_of c k ≡ Some s) × AreCounts (engine_of s) counts)
      → (line : Text) → line ≡ node_line k o → IsNodeLine w k line
  line_is k None gone line told x stands =
      subst (λ (l : Option engines.State). IsLineOf k l line)
      (sym (letters k x stands ∙ ap (option_map engine_of) gone)) told
  line_is k (Some counts) (s, here, are) line told x stands =
      subst (λ (l : Option engines.State). IsLineOf k l line)
      (sym (letters k x stands ∙ ap (option_map engine_of) here)) (counts, are, told)

  -- all of them
  all_lines : (members : ℕ) (text : Text) → length c.weights ≡ members
      → HasNodeLines w members text → HasLines w text
  all_lines members text each has = record {
    lines = has.lines;
    one_for_each = has.count ∙ (sym each ∙ sym node_count);
    are_lines = has.are_lines;
    parts = has.text_is;
  }

  -- the events lead to it
  pub shown : (members : ℕ) (text : Text) → length c.weights ≡ members
      → HasNodeLines w members text → IsShown c.division c.weights (taken c) text
  shown members text each has = record {
    made = is.made;
    world = w;
    led = is.led;
    has_lines = all_lines members text each has;
  }
