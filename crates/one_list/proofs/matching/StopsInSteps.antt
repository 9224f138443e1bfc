-- A stop inside a step that leaves its whole note is the same stop of the member.
use Rattle.std.proofs.Common.{◌≡◌, ◌<◌, ℕ, true, false, [], length, Some, option_map, slice_get, refl, sym, ap, subst, ◌∙◌}
use Rattle.claims.specs.Agreed.{IsValue}
use Rattle.claims.specs.AgreedList.{Cluster, Needs, after_act, lookup}
use Rattle.claims.specs.Member.{Closed, Member, facts_of}
use Rattle.claims.specs.Nodes as nodes
use Rattle.claims.specs.Quorums.{AreQuorums, Quorums}
use Rattle.claims.specs.Step as theory
use Rattle.claims.specs.Step.{Outcome}
use Rattle.claims.specs.World.{StopIn, cut, down, outcome, when}
use Rattle.node.specs.State.{with_note}
use Rattle.protocol.specs.Answers.{Answer}
use Rattle.protocol.specs.Laws.{IsOutcome}
use Rattle.protocol.specs.State.{Value, facts_at}
use Rattle.world.specs.World.{IsMade, World, WorldNode, down_node, member_at, with_node}
use Rattle.one_list.specs.Matches.{Matches, node_of}
use Rattle.one_list.proofs.matching.ActsByPath.{act_is, stop_here}
use Rattle.one_list.proofs.nodes.NodesAsMembers.{facts_here, facts_there, log_stays, log_then}
use Rattle.one_list.proofs.matching.MatchAfterEvent.{IsLeftAs, quiet_matches}

module _ (enough : Quorums) (quorums : AreQuorums enough) (may : Needs Value) (w : World)
    (made : IsMade w.division w.weights)
    (c : Cluster Value) (m : Matches w c) (values : (p : ℕ)
    → IsValue enough (c.at p) (lookup c.list p))
    (k : ℕ) (x : WorldNode) (stands : slice_get w.nodes k ≡ Some x) (up : x.up ≡ true)
    (u : ℕ) (within : u < length w.division.units) (input : theory.Input Value) (o : Outcome Value)
    (a : Answer)
    (answered : theory.answer enough k (nodes.view (node_of w k x) u) (c.at u).sent input ≡ Some o)
    (is : IsOutcome (member_at w k x) u o a) where
  -- the node after the stop
  abbrev y : WorldNode
  y = down_node (with_note x.notes a.note) []

  stops : outcome enough (c.at u) (StopIn k input) ≡ Some (cut o)
  stops =
      ap (λ (z : Member Value). when z.up
      (option_map cut (theory.answer enough k z (c.at u).sent input)))
      (m.members k u x stands within)
      ∙ ap (λ b. when b
      (option_map cut (theory.answer enough k (nodes.view (node_of w k x) u) (c.at u).sent input)))
      up
      ∙ ap (option_map cut) answered

  here : (cut o).member ≡ nodes.view (node_of w k y) u
  here =
      let g : facts_of o.member ≡ facts_at (member_at w k y) u =
      sym (facts_here w k x y u o a is refl) in
      λ i. record {
        opened = (g i).opened;
        promised = (g i).promised;
        voted = (g i).voted;
        held =
            (g i).held;
        up = false;
        stage = Closed;
      }

  there : (q : ℕ) → (q ≡ u → ⊥) → down (nodes.view (node_of w k x) q) ≡ nodes.view (node_of w k y) q
  there q ne =
      let g : facts_at (member_at w k x) q ≡ facts_at (member_at w k y) q =
      sym (facts_there w k x y u o a is refl q ne) in
      λ i. record {
        opened = (g i).opened;
        promised = (g i).promised;
        voted = (g i).voted;
        held =
            (g i).held;
        up = false;
        stage = Closed;
      }

  left_so : IsLeftAs w enough c u (StopIn k input) (cut o) x y
  left_so = record {
    here = here;
    there = λ q ne lt.
        stop_here Value enough (c.at q) k (ap (λ (z : Member Value). z.up)
        (m.members k q x stands lt) ∙ up)
        ∙ ap down (m.members k q x stands lt) ∙ there q ne;
    noted = log_then w made u x y a.note o.note refl is.note is.noted;
    kept = λ q ne lt. log_stays w made q u x y a.note refl is.noted within lt ne;
  }

  pub cut_matches : Matches (with_node w k y)
      (after_act enough may c (record { path = u; event = StopIn k input }))
  cut_matches = subst (Matches (with_node w k y))
      (sym (act_is Value enough may c u (StopIn k input) (cut o) refl stops))
      (quiet_matches w enough c m u within (StopIn k input) (cut o) stops x y stands left_so quorums
      (values u) refl)
