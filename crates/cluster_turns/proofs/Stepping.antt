-- A node of the cluster took its step. In the world the event happened.
use Rattle.std.proofs.Common.{◌≡◌, ◌≢◌, ◌++◌, ℕ, false, [], ◌∷◌, Option, Some, Ok, map, slice_get, slice_set, refl, sym, ap, subst, ◌∙◌, inl, inr, if◌then◌else◌}
use Rattle.std.proofs.lemmas.Bool.{cases_eq}
use Rattle.protocol.specs.Events.{Event, node_of}
use Rattle.one_list.proofs.uses.HostedNodes.{HasStepped, IsHosted, acts_there, set_elsewhere, set_there, steps_there}
use Rattle.node.specs.OnLog.{IsFull}
use Rattle.node.specs.State.{LoggedNode, NodeState}
use Rattle.node.specs.Step.{Asked, IsAsked, Taken, Takes, after}
use Rattle.cluster_turns.proofs.EventOf.{IsEventOf}
use Rattle.cluster_turns.proofs.Standing.{hosted, led_there, made_there, map_set}
use Rattle.cluster_turns.specs.State.{ClusterState, IsWorldOf, node_view, taken}
use Rattle.cluster_turns.specs.Turn.{HasHappened}
use Rattle.world.proofs.EventParts.{leads_together}
use Rattle.world.specs.Happening.{Acts, Leads}
use Rattle.world.specs.Sent.{with_sends}
use Rattle.world.specs.World.{IsMade, World, down_node, node_at, start, up_node}

-- The cluster after the step of one node on what it was asked, which is the event.
pub record HasMoved {D P : Type 0} (old new : ClusterState D P) (k : ℕ) (e : Event) (t : Taken)
    (n later : LoggedNode D) : Type 0 where
  pub division : new.division ≡ old.division
  pub weights : new.weights ≡ old.weights
  pub nodes : new.nodes ≡ slice_set old.nodes k later
  pub state : later.node ≡ after n.node t
  pub sent : new.sent ≡ with_sends old.sent t.answer.sends
  pub events : taken new ≡ taken old ++ e ∷ []

module _ {D P : Type 0} (old : ClusterState D P) (k : ℕ) (n : LoggedNode D)
    (stands : slice_get old.nodes k ≡ Some n) (up : n.node.stopped ≡ false) (asked : Asked)
    (can : IsAsked asked) (e : Event) (event : IsEventOf old.sent k asked e) (t : Taken)
    (takes : Takes n.node asked (Ok t)) where
  module _ (w : World) (is : IsWorldOf old w) where
    pub hosted_here : IsHosted w (node_of e) n.node
    hosted_here = subst (λ j. IsHosted w j n.node) (sym event.of_node)
        (hosted old w is k n stands up)

    -- the step is the event's
    pub acts : Acts w e (up_node n.node) t
    acts = acts_there w e n.node hosted_here asked (event.asks w is.sent) can t takes

  module _ (new : ClusterState D P) (later : LoggedNode D) (moved : HasMoved old new k e t n later)
      (room : ¬ IsFull n.node t.answer.note) where
    then_up : later.node.stopped ≡ false
    then_up = ap (λ (x : NodeState). x.stopped) moved.state ∙ up

    then_seen : node_view later ≡ up_node (after n.node t)
    then_seen =
        ap (λ b. if b then down_node later.node.notes [] else up_node later.node) then_up
        ∙ ap up_node moved.state

    -- the world after the step is the cluster after it
    leads_here : (w v : World) → IsWorldOf old w → HasStepped w e n.node t v → IsWorldOf new v
    leads_here w v is s = record {
      made = subst (λ d. IsMade d new.weights) (sym moved.division)
          (subst (λ ws. IsMade old.division ws) (sym moved.weights) is.made);
      led = subst (λ d. Leads (start d new.weights) (taken new) v) (sym moved.division)
          (subst (λ ws. Leads (start old.division ws) (taken new) v) (sym moved.weights)
          (subst (λ es. Leads (start old.division old.weights) es v) (sym moved.events)
          (leads_together (start old.division old.weights) w v (taken old) (e ∷ []) is.led
          (v, event.happens w v s.steps, refl))));
      nodes = s.nodes
          ∙ (ap (λ j. slice_set w.nodes j (up_node (after n.node t))) event.of_node
          ∙ (ap (λ l. slice_set l k (up_node (after n.node t))) is.nodes
          ∙ (ap (slice_set (map node_view old.nodes) k) (sym then_seen)
          ∙ (sym (map_set node_view old.nodes k later) ∙ ap (map node_view) (sym moved.nodes)))));
      sent = s.sent ∙ (ap (λ l. with_sends l t.answer.sends) is.sent ∙ sym moved.sent);
      know = λ j m at runs. elim (cases_eq j k) [
        | inl same ↦ know_then m
            (let here = subst (λ i. slice_get new.nodes i ≡ Some m) same at in here) j same
        | inr other ↦ know_other j m other at runs
      ];
    }
      where
        know_then : (m : LoggedNode D) → slice_get new.nodes k ≡ Some m → (j : ℕ) → j ≡ k
            → m.node ≡ node_at v j (node_view m)
        know_then m at j same =
            let known : ◌≡◌ {A = Option (LoggedNode D)} (Some later) (Some m) =
            sym (set_there old.nodes k n later stands) ∙ (ap (λ l. slice_get l k) (sym moved.nodes) ∙ at) in
            let one : later ≡ m = cc in
            subst (λ (x : LoggedNode D). x.node ≡ node_at v j (node_view x)) one
            (moved.state
            ∙ (s.hosted.is
            ∙ (ap (λ i. node_at v i (up_node (after n.node t))) (event.of_node ∙ sym same)
            ∙ ap (node_at v j) (sym then_seen))))

        know_other : (j : ℕ) (m : LoggedNode D) → j ≢ k → slice_get new.nodes j ≡ Some m
            → m.node.stopped ≡ false → m.node ≡ node_at v j (node_view m)
        know_other j m other at runs =
            let before = sym (set_elsewhere old.nodes k j later other)
            ∙ (ap (λ l. slice_get l j) (sym moved.nodes) ∙ at) in
            let seen = ap (λ b. if b then down_node m.node.notes [] else up_node m.node) runs in
            let stays = s.others j m.node (λ same. other (same ∙ event.of_node))
            (hosted old w is j m before runs) in
            stays.is ∙ ap (node_at v j) (sym seen)

    -- the event happened
    pub happened : HasHappened old new e
    happened w is =
        let step = steps_there w e n.node (hosted_here w is) (made_there old w is) (taken old)
        (led_there old w is) event.step t (acts w is) room in
        (step.0, event.happens w step.0 step.1.steps, leads_here w step.0 is step.1)
