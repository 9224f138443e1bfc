-- The list of agreed values only grows, and each entry is allowed by those before it.
use Rattle.std.proofs.Common.{◌≡◌, ℕ, Bool, true, ◌&&◌, List, [], ◌∷◌, ◌++◌, Option, Some, None, is_some, refl, inl, inr, ⊎_elim, eqb, eqb-true, eq-eqb, subst, sym, ap, ◌∙◌, append_assoc, IfSome}
use Rattle.std.proofs.lemmas.Bool.{cond_both, cond-true, cond-false, and_parts, eqb-false, ne_eqb}
use Rattle.claims.specs.Quorums.{Quorums, AreQuorums}
use Rattle.claims.specs.Messages.{Message}
use Rattle.claims.specs.Member.{Member}
use Rattle.claims.specs.Step.{Start, Built, Failed, Nudge, Deliver, Inquire, still}
use Rattle.claims.specs.World.{World, Event, Take, Stop, StopIn, Restart, outcome, after_event, run, after_any, when}
use Rattle.claims.specs.Agreed.{Builds, IsBuilt, IsValue, decided_value, agreed_then}
use Rattle.claims.specs.AgreedList.{Needs, Entry, Cluster, Act, lookup, elsewhere, held_by, may_happen, list_with, list_then, cluster_after, after_act, after_acts, beginning, IsAllowed, IsMonotone, BuildsNow, WasBuilt}
use Rattle.claims.proofs.Sound.{IsSound, IsDone}
use Rattle.claims.proofs.Restored.{IsRestored, event_restored, from_restored}
use Rattle.claims.proofs.Steps.{start_ok, after_event_ok, run_ok, weaken}
use Rattle.claims.proofs.Agreed.{done_value, value_then, found, is_agreed}

-- the entry for p is the result of `agreed_then`
list_here : {V : Type 0} (enough : Quorums) (p : ℕ) (w : World V) (list : List (Entry V)) (a d : Option V)
    → lookup list p ≡ a → decided_value enough w.sent w.sent ≡ d
    → lookup (list_with p list a d) p ≡ agreed_then enough w a
list_here enough p w list (Some u) d e f = e
list_here enough p w list None None e f = e ∙ sym f
list_here enough p w list None (Some v) e f = cond-true (eqb p p) (Some v) (lookup list p) (eq-eqb p p refl) ∙ sym f

-- other paths keep their entries
list_there : {V : Type 0} (p q : ℕ) (list : List (Entry V)) (a d : Option V) → (q ≡ p → ⊥)
    → lookup (list_with p list a d) q ≡ lookup list q
list_there p q list (Some u) d ne = refl
list_there p q list None None ne = refl
list_there p q list None (Some v) ne = cond-false (eqb p q) (Some v) (lookup list q) (ne_eqb p q (λ e. ne (sym e)))

-- entries stay
list_keeps : {V : Type 0} (p : ℕ) (list : List (Entry V)) (a d : Option V) → lookup list p ≡ a → (q : ℕ) (v : V)
    → lookup list q ≡ Some v → lookup (list_with p list a d) q ≡ Some v
list_keeps p list (Some u) d e q v h = h
list_keeps p list None None e q v h = h
list_keeps p list None (Some u) e q v h = cond_both (eqb p q) (Some u) (lookup list q) (λ o. o ≡ Some v) (λ t. let same : p ≡ q = eqb-true p q t in absurd (let wrong : None ≡ Some v = sym e ∙ (ap (lookup list) same ∙ h) in cc)) (λ t. h)

-- the list is extended at its front
list_longer : {V : Type 0} (p : ℕ) (list : List (Entry V)) (a d : Option V)
    → (more : List (Entry V)) × (list_with p list a d ≡ more ++ list)
list_longer p list (Some u) d = ([], refl)
list_longer p list None None = ([], refl)
list_longer p list None (Some v) = (record { path = p; value = v } ∷ [], refl)

module _ (V : Type 0) (enough : Quorums) where
  -- a step that says nothing sends nothing
  silent_sent : (w : World V) (i : ℕ) (b : Bool) (y : Member V)
      → (after_any w i (when b (Some (still y)))).sent ≡ w.sent
  silent_sent w i b y = cond_both b (Some (still y)) None (λ o. (after_any w i o).sent ≡ w.sent) (λ e. refl) (λ e. refl)

  -- nothing is sent or built for the other paths
  pub elsewhere_sent : (w : World V) (e : Event V) → (run enough (elsewhere e) w).sent ≡ w.sent
  elsewhere_sent w (Take i (Start above)) = silent_sent (after_event enough w (Stop i)) i _ _ ∙ silent_sent w i _ _
  elsewhere_sent w (Take i (Built v)) = refl
  elsewhere_sent w (Take i Failed) = refl
  elsewhere_sent w (Take i Nudge) = refl
  elsewhere_sent w (Take i (Deliver k)) = refl
  elsewhere_sent w (Take i Inquire) = refl
  elsewhere_sent w (Stop i) = silent_sent w i _ _
  elsewhere_sent w (StopIn i input) = silent_sent w i _ _
  elsewhere_sent w (Restart i) = silent_sent w i _ _

  elsewhere_built : (w : World V) (e : Event V) (v : V) → IsBuilt enough w (elsewhere e) v → ⊥
  elsewhere_built w (Take i (Start above)) v h = ⊎_elim (λ x. x) (λ k. ⊎_elim (λ x. x) (λ x. x) k) h
  elsewhere_built w (Take i (Built u)) v h = h
  elsewhere_built w (Take i Failed) v h = h
  elsewhere_built w (Take i Nudge) v h = h
  elsewhere_built w (Take i (Deliver k)) v h = h
  elsewhere_built w (Take i Inquire) v h = h
  elsewhere_built w (Stop i) v h = ⊎_elim (λ x. x) (λ x. x) h
  elsewhere_built w (StopIn i input) v h = ⊎_elim (λ x. x) (λ x. x) h
  elsewhere_built w (Restart i) v h = ⊎_elim (λ x. x) (λ x. x) h

-- each proposed value may be built on the list, and satisfies `Fine`, which holds of everything
-- that is built
abbrev pub IsFine : {V : Type 0} → Needs V → (ℕ → V → Type 0) → List (Entry V) → ℕ → V → Type 0
IsFine may Fine list p v = (may (lookup list) p v ≡ true) × Fine p v

pub record IsOrdered (V : Type 0) (enough : Quorums) (may : Needs V) (Fine : ℕ → V → Type 0) (c : Cluster V) : Type 0 where
  pub sound : (p : ℕ) → IsSound V enough (IsFine may Fine c.list p) (c.at p)
  pub values : (p : ℕ) → IsValue enough (c.at p) (lookup c.list p)
  pub allowed : IsAllowed may c.list

module _ (V : Type 0) (enough : Quorums) (quorums : AreQuorums enough) (may : Needs V) (more : IsMonotone may) (Fine : ℕ → V → Type 0) where
  -- what a member holds is in the list
  pub held_listed : (c : Cluster V) → IsOrdered V enough may Fine c → (i p : ℕ) (v : V) → held_by c i p ≡ Some v
      → lookup c.list p ≡ Some v
  held_listed c o i p v e =
      let s = o.sound p in
      let P : Option V → Type 0 = λ h. IfSome h (IsDone enough (c.at p)) in
      is_agreed enough (c.at p) v (lookup c.list p) (subst P e (s.held i)) (o.values p)

  -- what is built now may be built on the list
  pub built_on_list : (c : Cluster V) → IsOrdered V enough may Fine c → (p : ℕ) (e : Event V)
      → may_happen may c p e ≡ true → (v : V) → Builds (c.at p) e v → may (lookup c.list) p v ≡ true
  built_on_list c o p (Take i (Built u)) m v b = let P : V → Type 0 = λ v. may (lookup c.list) p v ≡ true in subst P b.0 (more (held_by c i) (lookup c.list) (held_listed c o i) p u m)
  built_on_list c o p (Take i (Start above)) m v b = absurd b
  built_on_list c o p (Take i Failed) m v b = absurd b
  built_on_list c o p (Take i Nudge) m v b = absurd b
  built_on_list c o p (Take i (Deliver k)) m v b = absurd b
  built_on_list c o p (Take i Inquire) m v b = absurd b
  built_on_list c o p (Stop i) m v b = absurd b
  built_on_list c o p (StopIn i input) m v b = absurd b
  built_on_list c o p (Restart i) m v b = absurd b

  -- which value is agreed depends only on the messages
  value_by_sent : (w w' : World V) (a : Option V) → w'.sent ≡ w.sent → IsValue enough w a → IsValue enough w' a
  value_by_sent w w' a e h = let P : List (Message V) → Type 0 = λ s. IsValue enough (record { members = w'.members; logs = w'.logs; sent = s }) a in subst P (sym e) (by_case a h)
    where
      by_case : (a : Option V) → IsValue enough w a
          → IsValue enough (record { members = w'.members; logs = w'.logs; sent = w.sent }) a
      by_case None h = h
      by_case (Some v) h = h

  -- the added entry is allowed by those before it
  new_allowed : (p : ℕ) (w : World V) (list : List (Entry V)) (a d : Option V) → IsAllowed may list
      → lookup list p ≡ a → ((v : V) → d ≡ Some v → may (lookup list) p v ≡ true)
      → IsAllowed may (list_with p list a d)
  new_allowed p w list (Some u) d al e ok = al
  new_allowed p w list None None al e ok = al
  new_allowed p w list None (Some v) al e ok = (e, ok v refl, al)

  -- an event for one path preserves the invariant
  pub cluster_after_ok : (c : Cluster V) → IsOrdered V enough may Fine c → (p : ℕ) (e : Event V)
      → ((v : V) → Builds (c.at p) e v → IsFine may Fine c.list p v)
      → IsOrdered V enough may Fine (cluster_after enough c p e)
  cluster_after_ok c o p e fine = record {
    sound = λ q. cond_both (eqb q p) (after_event enough (c.at q) e) (run enough (elsewhere e) (c.at q)) (IsSound V enough (IsFine may Fine after_list q))
        (λ same. let P : ℕ → Type 0 = λ q. IsSound V enough (IsFine may Fine after_list q) (after_event enough (c.at q) e) in subst P (sym (eqb-true q p same)) (longer p _ here))
        (λ other. longer q _ (run_ok V enough quorums _ (c.at q) (o.sound q) (elsewhere e) (λ v b. absurd (elsewhere_built V enough (c.at q) e v b))));
    values = λ q. cond_both (eqb q p) (after_event enough (c.at q) e) (run enough (elsewhere e) (c.at q)) (λ w. IsValue enough w (lookup after_list q))
        (λ same. let P : ℕ → Type 0 = λ q. IsValue enough (after_event enough (c.at q) e) (lookup after_list q) in subst P (sym (eqb-true q p same))
        (let Q : Option V → Type 0 = IsValue enough (after_event enough (c.at p) e) in
        subst Q (sym (list_here enough p (after_event enough (c.at p) e) c.list _ _ refl refl)) (value_then V enough quorums _ (c.at p) (o.sound p) e fine (lookup c.list p) (o.values p))))
        (λ other. let Q : Option V → Type 0 = IsValue enough (run enough (elsewhere e) (c.at q)) in
        subst Q (sym (list_there p q c.list _ _ (eqb-false q p other))) (value_by_sent (c.at q) (run enough (elsewhere e) (c.at q)) (lookup c.list q) (elsewhere_sent V enough (c.at q) e) (o.values q)));
    allowed = new_allowed p (after_event enough (c.at p) e) c.list (lookup c.list p) (decided_value enough (after_event enough (c.at p) e).sent (after_event enough (c.at p) e).sent) o.allowed refl
        (λ v d. let f = found V enough quorums (IsFine may Fine c.list p) (after_event enough (c.at p) e).sent (after_event enough (c.at p) e).sent v d in subst (λ v. may (lookup c.list) p v ≡ true) f.2 ((here.said _ (f.1).1).2).0);
  }
    where
      after_list : List (Entry V)
      after_list = list_then enough p (after_event enough (c.at p) e) c.list

      here : IsSound V enough (IsFine may Fine c.list p) (after_event enough (c.at p) e)
      here = after_event_ok V enough quorums _ (c.at p) (o.sound p) e fine

      longer : (q : ℕ) (w : World V) → IsSound V enough (IsFine may Fine c.list q) w
          → IsSound V enough (IsFine may Fine (list_then enough p (after_event enough (c.at p) e) c.list) q) w
      longer q w s = weaken V enough quorums _ _ (λ v h. (more (lookup c.list) (lookup (list_then enough p (after_event enough (c.at p) e) c.list)) (list_keeps p c.list _ _ refl) q v h.0, h.1)) w s

  -- an act preserves the invariant, whether or not it may happen
  pub after_act_ok : (c : Cluster V) → IsOrdered V enough may Fine c → (a : Act V)
      → ((v : V) → BuildsNow V may c a a.path v → Fine a.path v)
      → IsOrdered V enough may Fine (after_act enough may c a)
  after_act_ok c o a fine = cond_both (may_happen may c a.path a.event && is_some (outcome enough (c.at a.path) a.event)) (cluster_after enough c a.path a.event) c (IsOrdered V enough may Fine)
      (λ t. cluster_after_ok c o a.path a.event (λ v b. let l = built_on_list c o a.path a.event (and_parts _ _ t).0 v b in (l, fine v (record { path = refl; builds = b; listed = l }))))
      (λ f. o)

  -- the initial cluster satisfies the invariant
  pub beginning_ok : IsOrdered V enough may Fine beginning
  beginning_ok = record { sound = λ p. start_ok V enough quorums _; values = λ p b h. h.1; allowed = tt }

  -- acts preserve the invariant, if what they build is fine
  pub after_acts_ok : (c : Cluster V) → IsOrdered V enough may Fine c → (rest : List (Act V))
      → ((p : ℕ) (v : V) → WasBuilt enough may rest c p v → Fine p v)
      → IsOrdered V enough may Fine (after_acts enough may rest c)
  after_acts_ok c o [] fine = o
  after_acts_ok c o (a ∷ rest) fine = after_acts_ok (after_act enough may c a) (after_act_ok c o a (λ v b. fine a.path v (inl b))) rest (λ p v b. fine p v (inr b))

  -- what is in the list is fine
  pub listed_fine : (c : Cluster V) → IsOrdered V enough may Fine c → (p : ℕ) (v : V) → lookup c.list p ≡ Some v
      → Fine p v
  listed_fine c o p v e = let P : Option V → Type 0 = IsValue enough (c.at p) in let h = subst P e (o.values p) in (done_value V enough quorums (IsFine may Fine c.list p) (c.at p) (o.sound p) v h.0).1

-- after all acts the invariant holds, and each proposed value was built by one of them
pub ordered : (V : Type 0) (enough : Quorums) (quorums : AreQuorums enough) (may : Needs V) (more : IsMonotone may) (rest : List (Act V))
    → IsOrdered V enough may (WasBuilt enough may rest beginning) (after_acts enough may rest beginning)
ordered V enough quorums may more rest = after_acts_ok V enough quorums may more (WasBuilt enough may rest beginning) beginning (beginning_ok V enough quorums may more (WasBuilt enough may rest beginning)) rest (λ p v b. b)

-- acts split in two parts
pub after_acts-append : {V : Type 0} (enough : Quorums) (may : Needs V) (early late : List (Act V)) (c : Cluster V)
    → after_acts enough may (early ++ late) c ≡ after_acts enough may late (after_acts enough may early c)
after_acts-append enough may [] late c = refl
after_acts-append enough may (a ∷ rest) late c = after_acts-append enough may rest late (after_act enough may c a)

-- the list only grows
after_act_longer : {V : Type 0} (enough : Quorums) (may : Needs V) (c : Cluster V) (a : Act V)
    → (more : List (Entry V)) × ((after_act enough may c a).list ≡ more ++ c.list)
after_act_longer {V} enough may c a = cond_both (may_happen may c a.path a.event && is_some (outcome enough (c.at a.path) a.event)) (cluster_after enough c a.path a.event) c (λ d. (more : List (Entry V)) × (d.list ≡ more ++ c.list)) (λ t. list_longer a.path c.list _ _) (λ f. ([], refl))

pub after_acts_longer : {V : Type 0} (enough : Quorums) (may : Needs V) (rest : List (Act V)) (c : Cluster V)
    → (more : List (Entry V)) × ((after_acts enough may rest c).list ≡ more ++ c.list)
after_acts_longer enough may [] c = ([], refl)
after_acts_longer enough may (a ∷ rest) c =
    let r = after_acts_longer enough may rest (after_act enough may c a) in
    let s = after_act_longer enough may c a in
    (r.0 ++ s.0, r.1 ∙ (ap (λ l. r.0 ++ l) s.1 ∙ sym (append_assoc r.0 s.0 c.list)))

-- for each path, each member has the facts that its notes restore
acts_restored : {V : Type 0} (enough : Quorums) (may : Needs V) (acts : List (Act V)) (c : Cluster V)
    → ((p i : ℕ) → IsRestored V (c.at p) i) → (p i : ℕ) → IsRestored V ((after_acts enough may acts c).at p) i
acts_restored enough may [] c all = all
acts_restored {V} enough may (a ∷ rest) c all = acts_restored enough may rest (after_act enough may c a) (λ p i. act_restored p i)
  where
    act_restored : (p i : ℕ) → IsRestored V ((after_act enough may c a).at p) i
    act_restored p i =
        cond_both (may_happen may c a.path a.event && is_some (outcome enough (c.at a.path) a.event)) (cluster_after enough c a.path a.event) c (λ d. IsRestored V (d.at p) i)
        (λ t. cond_both (eqb p a.path) (after_event enough (c.at p) a.event) (run enough (elsewhere a.event) (c.at p)) (λ w. IsRestored V w i)
        (λ here. event_restored V enough (c.at p) (all p) a.event i)
        (λ other. from_restored V enough (elsewhere a.event) (c.at p) (all p) i))
        (λ f. all p i)

pub all_restored : {V : Type 0} (enough : Quorums) (may : Needs V) (acts : List (Act V)) (p i : ℕ)
    → IsRestored V ((after_acts enough may acts beginning).at p) i
all_restored enough may acts = acts_restored enough may acts beginning (λ p i. record { facts = refl; closed = tt })
