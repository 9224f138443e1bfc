-- Nodes that are opened over logs without notes.
use Rattle.std.proofs.Common.{◌≡◌, ◌≢◌, ◌+◌, ℕ, suc, List, [], ◌∷◌, Some, length, map, replicate, slice_get, refl, sym, ap, subst, ◌∙◌, arith, if◌then◌else◌}
use Rattle.ballots.specs.declared.message.Note.{Note}
use Rattle.turn_rules.specs.Pending.{Pending, nothing_kept}
use Rattle.cluster_turns.proofs.Unfailed.{none_yet}
use Rattle.cluster_turns.specs.Unfailed.{EachFailedBelow}
use Rattle.protocol.specs.Events.{event_view}
use Rattle.listing.specs.Tree.{Tree}
use Rattle.node.proofs.Opened.{one_way}
use Rattle.node.specs.Calls.{IsOpened}
use Rattle.node.specs.OnLog.{IsLogged, identity, identity_of, texts_of}
use Rattle.node.specs.State.{LoggedNode, NodeState, opened_node}
use Rattle.protocol.specs.State.{Value}
use Rattle.stable_record.specs.Log.{gate_place}
use Rattle.stable_record.specs.Log as log
use Rattle.cluster_turns.proofs.AnyCase.{starts_in_any}
use Rattle.cluster_turns.proofs.Fresh.{no_notes}
use Rattle.cluster_turns.specs.State.{AreOnLogs, ClusterState, IsWorldOf, node_view, taken}
use Rattle.cluster_turns.specs.declared.cluster.Cluster.TheInside.{Inside}
use Rattle.cluster_turns.specs.inside.Opening.{AreFresh}
use Rattle.cluster_turns.specs.inside.Standing.{IsCluster, cluster_of}
use Rattle.world.specs.Happening.{Leads}
use Rattle.world.specs.World.{IsMade, down_node, fresh_node, node_at, start, up_node}
use Rattle.stable_record.specs.declared.disk.Disk.{Ghosts as Disk}

module _ {D : Type 0} (tree : Tree) (weights : List ℕ) (me : ℕ) (n : LoggedNode D)
    (opened : IsOpened tree weights me n.node) where
  -- the log's identity is that of the member
  pub whose_is : identity_of n.node.member ≡ identity tree weights me
  whose_is =
      ap (λ (x : NodeState). identity_of x.member) opened.node
      ∙ ap (λ t. identity t weights me) opened.of_tree

  module _ (logged : IsLogged n) (len fresh : ℕ) (is : len ≡ n.log.end + 1)
      (at : fresh ≡ gate_place (identity tree weights me) [] + 1) where
    stands : n.log.end ≡ gate_place (identity tree weights me) (texts_of n.node.notes)
    stands = logged.end ∙ ap (λ i. gate_place i (texts_of n.node.notes)) whose_is

    -- a log that is as long as one without notes has no notes
    pub is_empty : len ≡ fresh → n.node.notes ≡ []
    is_empty same = no_notes tree weights me n.node.notes (omega (arith, same, is, at, stands))

    -- any other log has some
    pub has_some : len ≢ fresh
        → (note : log.Note) × (notes : List log.Note) × (texts_of n.node.notes ≡ note ∷ notes)
    has_some other = by n.node.notes refl
      where
        by : (notes : List (Note Value)) → n.node.notes ≡ notes
            → (note : log.Note) × (texts : List log.Note)
            × (texts_of n.node.notes ≡ note ∷ texts)
        by [] none =
            let here = stands
            ∙ ap (λ ns. gate_place (identity tree weights me) (texts_of ns)) none in
            absurd (other (omega (arith, is, at, here)))
        by (m ∷ ms) some = (_, _, ap texts_of some)

-- ---- the world at the start

-- elements that all map to the same value
alike : {X Y : Type 0} (f : X → Y) (y : Y) (xs : List X)
    → ((k : ℕ) (x : X) → slice_get xs k ≡ Some x → f x ≡ y) → map f xs ≡ replicate (length xs) y
alike f y [] same = refl
alike f y (x ∷ xs) same = λ i. same 0 x refl i ∷ alike f y xs (λ k. same (suc k)) i

module _ {D P : Type 0} (disk : Disk D) (tree : Tree) (weights : List ℕ) (disks : List D)
    (c : ClusterState D P) (of_tree : c.division.tree ≡ tree) (made : IsMade c.division weights)
    (weigh : c.weights ≡ weights) (count : length c.nodes ≡ length weights)
    (fresh : AreFresh disk tree weights disks c.nodes) where
  -- each node is the one over the cluster's units
  fresh_is : (k : ℕ) (n : LoggedNode D) → slice_get c.nodes k ≡ Some n
      → n.node ≡ opened_node c.division weights k []
  fresh_is k n at =
      let is = (fresh.each k n at).2 in
      let o = is.opened in
      let same : o.division ≡ c.division = one_way o.division c.division
      (o.of_tree ∙ sym of_tree) o.divided made.divided in
      o.node ∙ (λ i. opened_node (same i) weights k (is.empty i))

  seen_fresh : (k : ℕ) (n : LoggedNode D) → slice_get c.nodes k ≡ Some n
      → node_view n ≡ fresh_node
  seen_fresh k n at =
      ap (λ (x : NodeState). if x.stopped then down_node x.notes [] else up_node x)
      (fresh_is k n at)

  -- the cluster is a world at its start
  pub starts : c.sent ≡ [] → c.events ≡ [] → IsWorldOf c (start c.division weights)
  starts sent events = record {
    made = subst (λ ws. IsMade c.division ws) (sym weigh) made;
    led = subst (λ ws. Leads (start c.division ws) (taken c) (start c.division weights)) (sym weigh)
        (subst (λ es. Leads (start c.division weights) es (start c.division weights))
        (ap (map event_view) (sym events)) refl);
    nodes = ap (λ m. replicate m fresh_node) (sym count)
        ∙ sym (alike node_view fresh_node c.nodes seen_fresh);
    sent = sym sent;
    know = λ k n at up.
        subst (λ x. n.node ≡ node_at (start c.division weights) k x) (sym (seen_fresh k n at))
        (fresh_is k n at);
  }

-- each node that is up is on its log
pub fresh_on_logs : {D P : Type 0} (disk : Disk D) (tree : Tree)
    (weights : List ℕ) (disks : List D) (c : ClusterState D P)
    → AreFresh disk tree weights disks c.nodes → AreOnLogs disk c
fresh_on_logs disk tree weights disks c fresh k n at up kept =
    ((fresh.each k n at).2).on_log kept

-- ---- the cluster

module _ {D P : Type 0} (disk : Disk D) (tree : Tree) (weights : List ℕ) (disks : List D)
    (c : Inside D P) (of_tree : c.units.tree ≡ tree) (own : c.tree.now ≡ tree)
    (made : IsMade c.units weights) (weigh : c.weights ≡ weights)
    (count : length c.nodes.items ≡ length weights)
    (fresh : AreFresh disk tree weights disks c.nodes.items) (sent : c.sent ≡ [])
    (events : c.events.items ≡ []) (pending : c.pending ≡ nothing_kept)
    (unfailed : c.unfailed ≡ replicate 9 0) where
  -- the invariant holds
  pub is_cluster : IsCluster c
  is_cluster = record {
    tree = of_tree ∙ sym own;
    divided = made.divided;
    world = start c.units weights;
    is_world = starts disk tree weights disks (cluster_of c) of_tree made weigh count
        fresh sent events;
    count = count ∙ ap length (sym weigh);
    placed = omega (arith, ap (λ (p : Pending). p.next) pending);
    any_case = starts_in_any (cluster_of c) (start c.units weights)
        (starts disk tree weights disks (cluster_of c) of_tree made weigh count fresh
        sent events) (ap (map event_view) events);
    below = subst (EachFailedBelow c.nodes.items c.pending) (sym unfailed)
        (none_yet c.nodes.items c.pending 9);
  }
