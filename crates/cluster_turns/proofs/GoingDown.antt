-- A node of the cluster went down during its step. In the world this is a stop during the step.
use Rattle.std.proofs.Common.{◌≡◌, ◌++◌, ℕ, true, false, [], ◌∷◌, Option, Some, Ok, map, slice_get, slice_set, refl, sym, ap, subst, ◌∙◌, inl, inr, true≢false, if◌then◌else◌}
use Rattle.std.proofs.lemmas.Bool.{cases_eq}
use Rattle.protocol.specs.Events.{Event, StopIn, node_of}
use Rattle.protocol.specs.declared.event.Left.{Left}
use Rattle.protocol.specs.declared.event.Left.TheVariants as left
use Rattle.one_list.proofs.uses.HostedNodes.{set_elsewhere, set_there, stops_there}
use Rattle.node.specs.OnLog.{IsFull}
use Rattle.node.specs.State.{LoggedNode, NodeState}
use Rattle.node.specs.Step.{Asked, IsAsked, Taken, Takes}
use Rattle.cluster_turns.proofs.EventOf.{IsEventOf}
use Rattle.cluster_turns.proofs.Standing.{map_set}
use Rattle.cluster_turns.proofs.Stepping.{acts, hosted_here}
use Rattle.cluster_turns.specs.State.{ClusterState, IsWorldOf, node_view, taken}
use Rattle.cluster_turns.specs.Turn.{HasHappened}
use Rattle.world.proofs.EventParts.{leads_together}
use Rattle.world.specs.Happening.{Leads, StopsIn}
use Rattle.world.specs.World.{IsMade, World, down_node, node_at, start, up_node}

-- The cluster after node k went down during the step of the event.
pub record HasDropped {D P : Type 0} (old new : ClusterState D P) (k : ℕ) (e : Event)
    (n later : LoggedNode D) : Type 0 where
  pub division : new.division ≡ old.division
  pub weights : new.weights ≡ old.weights
  pub nodes : new.nodes ≡ slice_set old.nodes k later
  pub down : later.node ≡ record n.node { stopped = true }
  pub sent : new.sent ≡ old.sent
  pub events : taken new ≡ taken old ++ StopIn e left.None ∷ []

module _ {D P : Type 0} (old : ClusterState D P) (k : ℕ) (n : LoggedNode D)
    (stands : slice_get old.nodes k ≡ Some n) (up : n.node.stopped ≡ false) (asked : Asked)
    (can : IsAsked asked) (e : Event) (event : IsEventOf old.sent k asked e) (t : Taken)
    (takes : Takes n.node asked (Ok t)) (room : ¬ IsFull n.node t.answer.note) where
  -- whatever is left on the log
  pub stops : (w : World) (l : Left) → IsWorldOf old w → (v : World) × StopsIn w e l v
  stops w l is =
      stops_there w e n.node (hosted_here old k n stands up asked can e event t takes w is)
      event.step t (acts old k n stands up asked can e event t takes w is) room l

  module _ (new : ClusterState D P) (later : LoggedNode D)
      (dropped : HasDropped old new k e n later) where
    then_down : later.node.stopped ≡ true
    then_down = ap (λ (x : NodeState). x.stopped) dropped.down

    then_seen : node_view later ≡ down_node n.node.notes []
    then_seen =
        ap (λ (x : NodeState). if x.stopped then down_node x.notes [] else up_node x) dropped.down

    -- the world after the stop is the cluster after it
    is_world : (w v : World) → IsWorldOf old w → StopsIn w e left.None v
        → v ≡ record w { nodes = slice_set w.nodes (node_of e) (down_node n.node.notes []) }
        → IsWorldOf new v
    is_world w v is stops leaves = record {
      made = subst (λ d. IsMade d new.weights) (sym dropped.division)
          (subst (λ ws. IsMade old.division ws) (sym dropped.weights) is.made);
      led = subst (λ d. Leads (start d new.weights) (taken new) v) (sym dropped.division)
          (subst (λ ws. Leads (start old.division ws) (taken new) v) (sym dropped.weights)
          (subst (λ es. Leads (start old.division old.weights) es v) (sym dropped.events)
          (leads_together (start old.division old.weights) w v (taken old)
          (StopIn e left.None ∷ []) is.led (v, stops, refl))));
      nodes = ap (λ (x : World). x.nodes) leaves
          ∙ (ap (λ j. slice_set w.nodes j (down_node n.node.notes [])) event.of_node
          ∙ (ap (λ l. slice_set l k (down_node n.node.notes [])) is.nodes
          ∙ (ap (slice_set (map node_view old.nodes) k) (sym then_seen)
          ∙ (sym (map_set node_view old.nodes k later) ∙ ap (map node_view) (sym dropped.nodes)))));
      sent = ap (λ (x : World). x.sent) leaves ∙ is.sent ∙ sym dropped.sent;
      know = λ j m at runs. elim (cases_eq j k) [
        | inl same ↦ absurd (true≢false (sym then_down ∙ ap (λ (x : LoggedNode D). x.node.stopped)
            (is_then m (subst (λ i. slice_get new.nodes i ≡ Some m) same at)) ∙ runs))
        | inr other ↦ subst (λ (x : World). m.node ≡ node_at x j (node_view m)) (sym leaves)
            (is.know j m (sym (set_elsewhere old.nodes k j later other)
            ∙ ap (λ l. slice_get l j) (sym dropped.nodes) ∙ at) runs)
      ];
    }
      where
        is_then : (m : LoggedNode D) → slice_get new.nodes k ≡ Some m → later ≡ m
        is_then m at =
            let known : ◌≡◌ {A = Option (LoggedNode D)} (Some later) (Some m) =
            sym (set_there old.nodes k n later stands) ∙ ap (λ l. slice_get l k) (sym dropped.nodes)
            ∙ at in
            cc

    -- the stop happened
    pub went : HasHappened old new (StopIn e left.None)
    went w is =
        let v : World =
        record w { nodes = slice_set w.nodes (node_of e) (down_node n.node.notes []) } in
        let there : StopsIn w e left.None v = record {
          node = up_node n.node;
          taken = t;
          step = event.step;
          acts = acts old k n stands up asked can e event t takes w is;
          room = tt;
          leaves = refl;
        } in
        (v, there, is_world w v is there refl)
