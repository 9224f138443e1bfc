-- A cluster that is a world has the world's nodes.
use Rattle.std.proofs.Common.{◌≡◌, ℕ, zero, suc, false, List, [], ◌∷◌, None, Some, map, slice_get, slice_set, refl, sym, ap, subst, ◌∙◌, if◌then◌else◌}
use Rattle.std.proofs.lemmas.Option.{slice_get-map}
use Rattle.std.specs.Prelude.{option_map}
use Rattle.one_list.proofs.uses.HostedNodes.{IsHosted}
use Rattle.one_list.proofs.nodes.NodesAsMembers.{node_is_member}
use Rattle.one_list.proofs.clauses.OneListOfRuns.{each_run_is_acts}
use Rattle.node.specs.State.{LoggedNode, NodeState}
use Rattle.protocol.specs.Member.{IsMember}
use Rattle.cluster_turns.specs.State.{ClusterState, IsWorldOf, here_of, node_view, taken}
use Rattle.cluster_turns.specs.Here.{member_up}
use Rattle.world.proofs.Growth.{leads_later}
use Rattle.world.specs.Happening.{Leads}
use Rattle.world.specs.World.{IsMade, World, down_node, node_at, start, up_node}

pub map_set : {X Y : Type 0} (f : X → Y) (xs : List X) (k : ℕ) (y : X)
    → map f (slice_set xs k y) ≡ slice_set (map f xs) k (f y)
map_set f [] k y = refl
map_set f (x ∷ xs) zero y = refl
map_set f (x ∷ xs) (suc k) y = ap (λ l. f x ∷ l) (map_set f xs k y)

module _ {D P : Type 0} (c : ClusterState D P) (w : World) (is : IsWorldOf c w) where
  -- the world is over the cluster's units and weights
  pub same_division : w.division ≡ c.division
  same_division = (leads_later (start c.division c.weights) w (taken c) is.led).division

  pub same_weights : w.weights ≡ c.weights
  same_weights = (leads_later (start c.division c.weights) w (taken c) is.led).weights

  pub made_there : IsMade w.division w.weights
  made_there = subst (λ d. IsMade d w.weights) (sym same_division)
      (subst (λ ws. IsMade c.division ws) (sym same_weights) is.made)

  pub led_there : Leads (start w.division w.weights) (taken c) w
  led_there = subst (λ d. Leads (start d w.weights) (taken c) w) (sym same_division)
      (subst (λ ws. Leads (start c.division ws) (taken c) w) (sym same_weights) is.led)

  -- ---- a node that is up

  module _ (k : ℕ) (n : LoggedNode D) (stands : slice_get c.nodes k ≡ Some n)
      (up : n.node.stopped ≡ false) where
    seen_up : node_view n ≡ up_node n.node
    seen_up = ap (λ b. if b then down_node n.node.notes [] else up_node n.node) up

    -- it is the world's node
    pub hosted : IsHosted w k n.node
    hosted = record {
      stands = ap (λ l. slice_get l k) is.nodes
          ∙ (slice_get-map node_view c.nodes k
          ∙ (ap (option_map node_view) stands ∙ ap (λ x. Some x) seen_up));
      is = is.know k n stands up ∙ ap (node_at w k) seen_up;
    }

    -- and its member is valid
    pub member_there : IsMember n.node.member
    member_there =
        let run = each_run_is_acts c.division c.weights (taken c) w is.made is.led in
        subst (λ (x : NodeState). IsMember x.member) (sym hosted.is)
        (node_is_member w made_there run.3 k (up_node n.node) hosted.stands)

-- the member of a node that is up
pub here_up : {D P : Type 0} (c : ClusterState D P) (k : ℕ) (n : LoggedNode D)
    → slice_get c.nodes k ≡ Some n → n.node.stopped ≡ false
    → here_of c k ≡ Some n.node.member
here_up c k n stands up =
    ap member_up stands ∙ ap (λ b. if b then None else Some n.node.member) up
