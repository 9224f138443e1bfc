-- A stop inside an input's step that leaves its whole note is the same stop of the member; and a
-- claim whose build failed is dropped there.
use Rattle.std.proofs.Common.{◌≡◌, ℕ, true, List, [], Option, Some, None, sym, ap, subst, ◌∙◌}
use Rattle.claims.specs.AgreedList.{Act, Cluster}
use Rattle.claims.specs.Nodes as nodes
use Rattle.claims.specs.Quorums.{is_majority}
use Rattle.claims.specs.Step as theory
use Rattle.claims.specs.Step.{Outcome, on_failed}
use Rattle.claims.specs.World.{StopIn}
use Rattle.claims.proofs.Majorities.{majorities}
use Rattle.protocol.specs.Events as events
use Rattle.protocol.specs.Events.{Event}
use Rattle.node.specs.Step.{Asked, Does}
use Rattle.protocol.specs.declared.event.Left.TheVariants as left
use Rattle.protocol.specs.InTheAgreement.{view}
use Rattle.protocol.specs.Laws.{IsNoMessage, for_unit}
use Rattle.protocol.specs.State.{Value}
use Rattle.protocol.specs.declared.input.Input.{Input}
use Rattle.engine.specs.Division.{Division}
use Rattle.world.specs.Happening.{Asks, StopsIn}
use Rattle.world.specs.World.{IsMade, World, WorldNode, member_at}
use Rattle.one_list.specs.MatchingLaws.{IsOneActMore}
use Rattle.one_list.specs.Local.{AreLocal}
use Rattle.one_list.specs.Matches.{Matches, node_of}
use Rattle.one_list.specs.Mirrored.{after_all_acts, with_act}
use Rattle.one_list.specs.Needs.{may_build}
use Rattle.one_list.proofs.nodes.StepsInTheory.{IsInputOf, any_sent, input_of, same_view}
use Rattle.one_list.proofs.matching.StopActs.{one_more, values_there}
use Rattle.one_list.proofs.matching.StopsInSteps.{cut_matches}

module _ (division : Division) (weights : List ℕ) (acts : List (Act Value)) (w : World)
    (made : IsMade division weights)
    (of : (w.division ≡ division) × (w.weights ≡ weights)) (local : AreLocal w)
    (m : Matches w (after_all_acts division weights acts)) where
  -- the cluster after the acts
  abbrev here : Cluster Value
  here = after_all_acts division weights acts

  pub made_here : IsMade w.division w.weights
  made_here = subst (λ (d : Division). IsMade d w.weights) (sym of.0)
      (subst (IsMade division) (sym of.1) made)

  -- the answer of the theory's member for the unit, with these weights
  pub answered : (k : ℕ) (x : WorldNode) (u : ℕ) (input : theory.Input Value) (o : Outcome Value)
      → x.up ≡ true
      → theory.answer (is_majority w.weights) k (view (member_at w k x) u) [] input ≡ Some o
      → theory.answer (is_majority weights) k (nodes.view (node_of w k x) u) (here.at u).sent input
      ≡ Some o
  answered k x u input o up e =
      any_sent (is_majority weights) k (nodes.view (node_of w k x) u) (here.at u).sent input o
      (ap (λ y. theory.answer (is_majority weights) k y [] input) (same_view w k x u up)
      ∙ ap (λ ws. theory.answer (is_majority ws) k (view (member_at w k x) u) [] input) (sym of.1)
      ∙ e)

  -- a stop inside the step of an input that leaves its whole note
  pub input_cut_is_act : (e : Event) (v : World) (input : Input)
      → ((a : Asked) → Asks w e a → a ≡ Does input) → IsNoMessage input
      → StopsIn w e left.Whole v → IsOneActMore division weights acts w (events.StopIn e left.Whole)
      v
  input_cut_is_act e v input asks none s = (
    Some act,
    (λ j b built. absurd cc),
    subst (λ z. Matches z (after_all_acts division weights (with_act acts (Some act))))
        (sym s.leaves)
        (subst (Matches _) (sym (one_more division weights acts w m act))
        (cut_matches (is_majority weights) (majorities weights) (may_build division) w made_here
        here m (values_there division weights acts w m)
        (events.node_of e) s.node s.acts.is_up.stands s.acts.is_up.up i.answers.unit
        i.answers.within i.answers.asks i.answers.answers.outcome s.taken.answer
        (answered (events.node_of e) s.node i.answers.unit i.answers.asks i.answers.answers.outcome
        s.acts.is_up.up i.answers.answers.answers)
        i.answers.answers.is)),
  )
    where
      i : IsInputOf w e s.node s.taken input
      i = input_of w made_here local e s.node s.taken input s.acts asks none

      act : Act Value
      act = record { path = i.answers.unit; event = StopIn (events.node_of e) i.answers.asks }

  -- what is asked for a unit
  pub asks_for : (o : Option ℕ) (f : ℕ → theory.Input Value) (u : ℕ) (input : theory.Input Value)
      → for_unit o f ≡ Some (u, input) → f u ≡ input
  asks_for None f u input e = absurd (let wrong : None ≡ Some (u, input) = e in cc)
  asks_for (Some v) f u input e =
      let both : (v, f v) ≡ (u, input) = pair_same (v, f v) (u, input) e in
      ap f (sym (ap (λ (p : ℕ × theory.Input Value). p.0) both))
      ∙ ap (λ (p : ℕ × theory.Input Value). p.1) both
    where
      pair_same : (a b : ℕ × theory.Input Value) → Some a ≡ Some b → a ≡ b
      pair_same a b e = cc
