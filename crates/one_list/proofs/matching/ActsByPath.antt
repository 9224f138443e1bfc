-- The effects of an act on the agreements, path by path.
use Rattle.std.proofs.Common.{◌≡◌, ℕ, Bool, true, false, not, List, Option, Some, None, refl, sym, ap, ◌∙◌, eqb, eqb-true, eq-eqb, is_some, ◌&&◌}
use Rattle.std.proofs.lemmas.Bool.{and_from, cond_both, cond-false, cond-true, ne_eqb}
use Rattle.claims.specs.Agreed.{IsValue, decided_value}
use Rattle.claims.specs.AgreedList.{Cluster, Entry, Needs, after_act, cluster_after, elsewhere, list_with, lookup, may_happen}
use Rattle.claims.specs.Member.{Closed, Member}
use Rattle.claims.specs.Quorums.{AreQuorums, Quorums}
use Rattle.claims.specs.Step.{Built, Deliver, Failed, Inquire, Nudge, Outcome, Start, still}
use Rattle.claims.specs.World.{Event, Restart, Stop, StopIn, Take, World, add_sent, after, after_any, after_event, down, member_of, outcome, put, run, when}
use Rattle.claims.proofs.Agreed.{found}
use Rattle.claims.proofs.Kept.{put_same}

module _ (V : Type 0) (enough : Quorums) where
  -- ---- stops and restarts

  -- their effect on a member
  pub stop_here : (u : World V) (i : ℕ) → (u.members i).up ≡ true
      → (after_event enough u (Stop i)).members i ≡ down (u.members i)
  stop_here u i up =
      ap (λ b. (after_any u i (when b (Some (still (down (u.members i)))))).members i) up
      ∙ put_same u.members i (down (u.members i))

  pub restart_here : (u : World V) (i : ℕ) → (u.members i).up ≡ false
      → (after_event enough u (Restart i)).members i ≡
      record (u.members i) { up = true; stage = Closed }
  restart_here u i up =
      ap (λ b.
      (after_any u i (when (not b)
      (Some (still (record (u.members i) { up = true; stage = Closed }))))).members i) up
      ∙ put_same u.members i _

  -- a stop followed by a restart only drops the open claim
  pub dropped_here : (u : World V) (i : ℕ) → (u.members i).up ≡ true
      → (after_event enough (after_event enough u (Stop i)) (Restart i)).members i ≡
      record (u.members i) { up = true; stage = Closed }
  dropped_here u i up =
      let s = stop_here u i up in
      restart_here (after_event enough u (Stop i)) i (ap (λ m. m.up) s)
      ∙ ap (λ (m : Member V). record m { up = true; stage = Closed }) s

  -- ---- the effect of an event on other paths

  -- putting a value back where it was changes nothing
  put_again : {X : Type 0} (f : ℕ → X) (i j : ℕ) → put f i (f i) j ≡ f j
  put_again f i j = cond_both (eqb j i) (f i) (f j) (λ y. y ≡ f j)
      (λ same. ap f (sym (eqb-true j i same))) (λ other. refl)

  silent_logs : (w : World V) (i j : ℕ) (b : Bool) (y : Member V)
      → (after_any w i (when b (Some (still y)))).logs j ≡ w.logs j
  silent_logs w i j b y =
      cond_both b (Some (still y)) None (λ o. (after_any w i o).logs j ≡ w.logs j)
      (λ e. put_again w.logs i j) (λ e. refl)

  pub elsewhere_logs : (w : World V) (e : Event V) (j : ℕ)
      → (run enough (elsewhere e) w).logs j ≡ w.logs j
  elsewhere_logs w (Take i (Start above)) j = silent_logs (after_event enough w (Stop i)) i j _ _
      ∙ silent_logs w i j _ _
  elsewhere_logs w (Take i (Built v)) j = refl
  elsewhere_logs w (Take i Failed) j = refl
  elsewhere_logs w (Take i Nudge) j = refl
  elsewhere_logs w (Take i (Deliver k)) j = refl
  elsewhere_logs w (Take i Inquire) j = refl
  elsewhere_logs w (Stop i) j = silent_logs w i j _ _
  elsewhere_logs w (StopIn i input) j = silent_logs w i j _ _
  elsewhere_logs w (Restart i) j = silent_logs w i j _ _

  -- ---- the agreements after an event for a path

  -- an act that may happen and is not refused has the effect of its event
  pub act_is : (may : Needs V) (c : Cluster V) (p : ℕ) (e : Event V) (o : Outcome V)
      → may_happen may c p e ≡ true → outcome enough (c.at p) e ≡ Some o
      → after_act enough may c (record { path = p; event = e }) ≡ cluster_after enough c p e
  act_is may c p e o a s =
      cond-true (may_happen may c p e && is_some (outcome enough (c.at p) e))
      (cluster_after enough c p e) c (and_from _ _ a (ap is_some s))

  -- the agreement of its own path
  pub at_here : (c : Cluster V) (p : ℕ) (e : Event V) (o : Outcome V)
      → outcome enough (c.at p) e ≡ Some o
      → (cluster_after enough c p e).at p ≡ after (c.at p) (member_of e) o
  at_here c p e o s =
      cond-true (eqb p p) (after_event enough (c.at p) e) (run enough (elsewhere e) (c.at p))
      (eq-eqb p p refl)
      ∙ ap (after_any (c.at p) (member_of e)) s

  -- the agreements of the other paths
  pub at_there : (c : Cluster V) (p q : ℕ) (e : Event V) → (q ≡ p → ⊥)
      → (cluster_after enough c p e).at q ≡ run enough (elsewhere e) (c.at q)
  at_there c p q e ne =
      cond-false (eqb q p) (after_event enough (c.at q) e) (run enough (elsewhere e) (c.at q))
      (ne_eqb q p ne)

  -- ---- the list

  -- a path with an entry in the list has that entry's value
  settled : AreQuorums enough → (u : World V) (p : ℕ) (list : List (Entry V)) (a d : Option V)
      → IsValue enough u a
      → decided_value enough u.sent u.sent ≡ d → list_with p list a d ≡ list
  settled quorums u p list (Some v) d h e = refl
  settled quorums u p list None None h e = refl
  settled quorums u p list None (Some v) h e =
      let f = found V enough quorums (λ v. Unit {0}) u.sent u.sent v e in absurd (h f.0 f.1)

  -- an event that sends nothing leaves the list unchanged
  pub list_stays : AreQuorums enough → (c : Cluster V) (p : ℕ) (e : Event V) (o : Outcome V)
      → IsValue enough (c.at p) (lookup c.list p) → outcome enough (c.at p) e ≡ Some o
      → o.send ≡ None
      → (cluster_after enough c p e).list ≡ c.list
  list_stays quorums c p e o value s none =
      let sent : (after_event enough (c.at p) e).sent ≡ (c.at p).sent =
      ap (λ w. w.sent) (ap (after_any (c.at p) (member_of e)) s)
      ∙ ap (λ x. add_sent x (c.at p).sent) none in
      ap (λ all. list_with p c.list (lookup c.list p) (decided_value enough all all)) sent
      ∙ settled quorums (c.at p) p c.list (lookup c.list p)
      (decided_value enough (c.at p).sent (c.at p).sent) value refl
