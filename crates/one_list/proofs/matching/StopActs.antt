-- Stops and restarts are acts of the agreements.
use Rattle.std.proofs.Common.{◌≡◌, ◌<◌, ◌⊎◌, ℕ, true, false, not, List, [], ◌∷◌, length, Some, None, slice_get, refl, sym, ap, subst, ◌∙◌, ⊎_elim, inl, inr, arith}
use Rattle.std.proofs.lemmas.Bool.{cases_lt}
use Rattle.faults.specs.Bytes.{Text}
use Rattle.claims.specs.Agreed.{IsValue}
use Rattle.claims.specs.AgreedList.{Act, Cluster, Needs, after_act, beginning, lookup}
use Rattle.claims.specs.Member.{Closed, Member}
use Rattle.claims.specs.Quorums.{AreQuorums, Quorums, is_majority}
use Rattle.claims.specs.Step.{Outcome, still}
use Rattle.claims.specs.World.{Restart, Stop, down, outcome, when}
use Rattle.claims.proofs.AgreedList.{after_acts-append, ordered}
use Rattle.claims.proofs.Majorities.{majorities}
use Rattle.protocol.specs.Events as events
use Rattle.protocol.specs.Events.{Event}
use Rattle.protocol.specs.declared.event.Left.{Left}
use Rattle.protocol.specs.declared.event.Left.TheVariants as left
use Rattle.protocol.specs.State.{Value}
use Rattle.engine.specs.Division.{Division}
use Rattle.world.specs.Happening.{Restarts, Stops, StopsIn}
use Rattle.world.specs.World.{World, WorldNode, down_node, restarted_node, with_node}
use Rattle.one_list.specs.MatchingLaws.{IsOneActMore}
use Rattle.one_list.specs.Matches.{Matches}
use Rattle.one_list.specs.Mirrored.{after_all_acts, with_act}
use Rattle.one_list.specs.Needs.{may_build}
use Rattle.one_list.proofs.matching.ActsByPath.{act_is, restart_here, stop_here}
use Rattle.one_list.proofs.sent.MonotoneNeeds.{needs_are_monotone}
use Rattle.one_list.proofs.matching.MatchAfterEvent.{IsLeftAs, quiet_matches}

-- if there are no units, any change of a node preserves the match
no_units : (w : World) (c : Cluster Value) (k : ℕ) (y : WorldNode) → length w.division.units ≡ 0
    → Matches w c → Matches (with_node w k y) c
no_units w c k y none m = record {
  members = λ j q z g lt. absurd (omega (arith, lt, none));
  logs = λ j q z g lt. absurd (omega (arith, lt, none));
  sent = λ text h. let s = m.sent text h in absurd (omega (arith, s.listed, none));
  votes = λ q n b lt h. absurd (omega (arith, lt, none));
  proposals = λ q b v lt h. absurd (omega (arith, lt, none));
  list = m.list;
  units = m.units;
}

module _ (enough : Quorums) (quorums : AreQuorums enough) (may : Needs Value) (w : World)
    (c : Cluster Value) (m : Matches w c)
    (values : (p : ℕ) → IsValue enough (c.at p) (lookup c.list p)) (k : ℕ) (x : WorldNode)
    (stands : slice_get w.nodes k ≡ Some x)
    (some : 0 < length w.division.units) where
  -- a node that goes down and keeps its notes is a member that stops
  down_matches : (behind : Text) → x.up ≡ true
      → Matches (with_node w k (down_node x.notes behind))
      (after_act enough may c (record { path = 0; event = Stop k }))
  down_matches behind up = subst (Matches (with_node w k y))
      (sym (act_is Value enough may c 0 (Stop k) o refl answered))
      (quiet_matches w enough c m 0 some (Stop k) o answered x y stands left quorums (values 0)
      refl)
    where
      y : WorldNode
      y = down_node x.notes behind

      o : Outcome Value
      o = still (down ((c.at 0).members k))

      up_there : (q : ℕ) → q < length w.division.units → ((c.at q).members k).up ≡ true
      up_there q lt = ap (λ (z : Member Value). z.up) (m.members k q x stands lt) ∙ up

      answered : outcome enough (c.at 0) (Stop k) ≡ Some o
      answered = ap (λ b. when b (Some o)) (up_there 0 some)

      left : IsLeftAs w enough c 0 (Stop k) o x y
      left = record {
        here = ap down (m.members k 0 x stands some);
        there = λ q ne lt. stop_here Value enough (c.at q) k (up_there q lt)
            ∙ ap down (m.members k q x stands lt);
        noted = refl;
        kept = λ q ne lt. refl;
      }

  -- a node that starts again is a member that restarts
  up_matches : x.up ≡ false
      → Matches (with_node w k (restarted_node x.notes))
      (after_act enough may c (record { path = 0; event = Restart k }))
  up_matches up = subst (Matches (with_node w k y))
      (sym (act_is Value enough may c 0 (Restart k) o refl answered))
      (quiet_matches w enough c m 0 some (Restart k) o answered x y stands left quorums (values 0)
      refl)
    where
      y : WorldNode
      y = restarted_node x.notes

      again : Member Value → Member Value
      again z = record z { up = true; stage = Closed }

      o : Outcome Value
      o = still (again ((c.at 0).members k))

      up_there : (q : ℕ) → q < length w.division.units → ((c.at q).members k).up ≡ false
      up_there q lt = ap (λ (z : Member Value). z.up) (m.members k q x stands lt) ∙ up

      answered : outcome enough (c.at 0) (Restart k) ≡ Some o
      answered = ap (λ b. when (not b) (Some o)) (up_there 0 some)

      left : IsLeftAs w enough c 0 (Restart k) o x y
      left = record {
        here = ap again (m.members k 0 x stands some);
        there = λ q ne lt. restart_here Value enough (c.at q) k (up_there q lt)
            ∙ ap again (m.members k q x stands lt);
        noted = refl;
        kept = λ q ne lt. refl;
      }

-- ---- so they are one act or none

module _ (division : Division) (weights : List ℕ) (acts : List (Act Value)) (w : World)
    (m : Matches w (after_all_acts division weights acts)) where
  -- the cluster after the acts
  abbrev reached : Cluster Value
  reached = after_all_acts division weights acts

  pub values_there : (p : ℕ) → IsValue (is_majority weights) (reached.at p) (lookup reached.list p)
  values_there = (ordered Value (is_majority weights) (majorities weights) (may_build division)
      (needs_are_monotone division) acts).values

  -- one more act
  pub one_more : (a : Act Value)
      → after_all_acts division weights (with_act acts (Some a)) ≡ after_act (is_majority weights)
      (may_build division) reached a
  one_more a = after_acts-append (is_majority weights) (may_build division) acts (a ∷ []) beginning

  -- a stop is one act for all units, or none if there are no units
  some_or_none : (n : ℕ) → (0 < n) ⊎ (n ≡ 0)
  some_or_none n = ⊎_elim (λ l. inl l) (λ l. inr (omega (arith, l))) (cases_lt 0 n)

  pub goes_down : (e : Event) (k : ℕ) (x : WorldNode) (behind : Text) → slice_get w.nodes k ≡ Some x
      → x.up ≡ true
      → (v : World) → v ≡ with_node w k (down_node x.notes behind)
      → IsOneActMore division weights acts w e v
  goes_down e k x behind stands up v is = ⊎_elim
      (λ some. (
        Some (record { path = 0; event = Stop k }),
        (λ j b built. absurd cc),
        subst (λ u. Matches u
            (after_all_acts division weights (with_act acts
            (Some (record { path = 0; event = Stop k }))))) (sym is)
            (subst (Matches (with_node w k (down_node x.notes behind)))
            (sym (one_more (record { path = 0; event = Stop k })))
            (down_matches (is_majority weights) (majorities weights) (may_build division) w reached
            m values_there k x stands some behind up)),
      ))
      (λ none. (
        None,
        tt,
        subst (λ u. Matches u reached) (sym is)
            (no_units w reached k (down_node x.notes behind) none m),
      ))
      (some_or_none (length w.division.units))

  pub stop_is_act : (n : ℕ) (v : World) → Stops w n v
      → IsOneActMore division weights acts w (events.Stop n) v
  stop_is_act n v s = goes_down (events.Stop n) n s.node [] s.is_up.stands s.is_up.up v s.leaves

  -- a stop inside a step that leaves nothing of the note is a stop
  pub cut_is_act : (e : Event) (l : Left) (v : World) → (l ≡ left.Whole → ⊥) → StopsIn w e l v
      → IsOneActMore division weights acts w (events.StopIn e l) v
  cut_is_act e left.None v not_whole s =
      goes_down (events.StopIn e left.None) (events.node_of e) s.node [] s.acts.is_up.stands
      s.acts.is_up.up v s.leaves
  cut_is_act e (left.Torn bytes) v not_whole s =
      goes_down (events.StopIn e (left.Torn bytes)) (events.node_of e) s.node bytes
      s.acts.is_up.stands s.acts.is_up.up v s.leaves
  cut_is_act e left.Whole v not_whole s = absurd (not_whole refl)

  pub restart_is_act : (n : ℕ) (v : World) → Restarts w n v
      → IsOneActMore division weights acts w (events.Restart n) v
  restart_is_act n v s = ⊎_elim
      (λ some. (
        Some (record { path = 0; event = Restart n }),
        (λ j b built. absurd cc),
        subst (λ u. Matches u
            (after_all_acts division weights (with_act acts
            (Some (record { path = 0; event = Restart n }))))) (sym s.leaves)
            (subst (Matches (with_node w n (restarted_node s.node.notes)))
            (sym (one_more (record { path = 0; event = Restart n })))
            (up_matches (is_majority weights) (majorities weights) (may_build division) w reached m
            values_there n s.node s.stands some s.down)),
      ))
      (λ none. (
        None,
        tt,
        subst (λ u. Matches u reached) (sym s.leaves)
            (no_units w reached n (restarted_node s.node.notes) none m),
      ))
      (some_or_none (length w.division.units))
