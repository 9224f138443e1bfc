-- A step of a node, for its path and for the others.
use Rattle.std.proofs.Common.{◌≡◌, ℕ, suc, zero, Bool, true, false, not, ◌&&◌, ◌⊎◌, List, [], ◌∷◌, Option, Some, None, refl, inl, inr, ⊎_elim, eqb, eqb-true, eq-eqb, subst, sym, ap, ap₂, ◌∙◌, slice_get, slice_set, IfSome}
use Rattle.std.proofs.lemmas.Bool.{cond_both, cond-true, cond-false, cases_Bool, eqb-false, ne_eqb}
use Rattle.claims.specs.Claims.{Claim, claim_same, is_above, is_below, is_promised}
use Rattle.claims.specs.Quorums.{Members, Quorums, with_member}
use Rattle.claims.specs.Votes.{Ballot, PromiseOf, is_voted, kept_report}
use Rattle.claims.specs.Messages.{Message, Offer, Promise, Propose, Vote, Nay, Agreed, Ask}
use Rattle.claims.specs.Member.{Member, Stage, Closed, Gathering, Building, Voting, facts_of}
use Rattle.claims.specs.Step.{Start, Built, Failed, Nudge, Deliver, Inquire, Outcome, still, on_message, on_promise, on_vote, on_agreed, on_ask, on_built, on_failed, on_nudge, on_inquire, on_quorum}
use Rattle.claims.specs.World.{World, Event, Take, Stop, StopIn, Restart, member_of, outcome, after_event, run, after, after_any, add_sent, when, down, put}
use Rattle.claims.specs.Agreed.{decided_value}
use Rattle.claims.specs.AgreedList.{Cluster, lookup, elsewhere, list_with, cluster_after}
use Rattle.claims.specs.Nodes.{OpenClaim, Node, Datagram, Net, stage_at, view, claim_then, node_with, halted_with, for_path, add_datagram, Matches}
use Rattle.claims.proofs.Kept.{put_same}
use Rattle.claims.proofs.AgreedList.{elsewhere_sent}

-- an element of a list in which one element was replaced
pub get_set : {X : Type 0} (l : List X) (i j : ℕ) (a y : X) → slice_get (slice_set l i a) j ≡ Some y
    → ((j ≡ i) × (y ≡ a)) ⊎ ((j ≡ i → ⊥) × (slice_get l j ≡ Some y))
get_set [] i j a y e = absurd cc
get_set (x ∷ xs) zero zero a y e = inl (refl, cc)
get_set (x ∷ xs) zero (suc j) a y e = inr ((λ f. cc), e)
get_set (x ∷ xs) (suc i) zero a y e = inr ((λ f. cc), e)
get_set (x ∷ xs) (suc i) (suc j) a y e = ⊎_elim (λ h. inl (ap suc h.0, h.1)) (λ h. inr ((λ f. h.0 (let g : j ≡ i = cc in g)), h.1)) (get_set xs i j a y e)

-- at other indexes the old values stay
pub put_other : {X : Type 0} (f : ℕ → X) (i j : ℕ) (x : X) → (j ≡ i → ⊥) → put f i x j ≡ f j
put_other f i j x ne = cond-false (eqb j i) x (f j) (ne_eqb j i ne)

-- a datagram is among those for its path
pub comes : {V : Type 0} (ds : List (Datagram V)) (k : ℕ) (d : Datagram V) → slice_get ds k ≡ Some d
    → (n : ℕ) × (slice_get (for_path d.path ds) n ≡ Some d.message)
comes [] k d e = absurd cc
comes (x ∷ xs) zero d e = let same : x ≡ d = cc in (0, ap (λ l. slice_get l 0) (cond-true (eqb d.path x.path) _ _ (eq-eqb d.path x.path (ap (λ y. y.path) (sym same)))) ∙ ap (λ y. Some y.message) same)
comes (x ∷ xs) (suc k) d e =
    let r = comes xs k d e in
    elim (cases_Bool (eqb d.path x.path)) [
      | inl t ↦ (suc r.0, ap (λ l. slice_get l (suc r.0)) (cond-true (eqb d.path x.path) _ _ t) ∙ r.1)
      | inr f ↦ (r.0, ap (λ l. slice_get l r.0) (cond-false (eqb d.path x.path) _ _ f) ∙ r.1)
    ]

-- after a step, its path has the stage that the step leaves
pub stage_here : {V : Type 0} (old : Option (OpenClaim V)) (p : ℕ) (stage : Stage V)
    → stage_at (claim_then old p stage) p ≡ stage
stage_here None p Closed = refl
stage_here (Some c) p Closed = ⊎_elim (λ t. ap (λ o. stage_at o p) (cond-true (eqb p c.path) None (Some c) t)) (λ f. ap (λ o. stage_at o p) (cond-false (eqb p c.path) None (Some c) f) ∙ cond-false (eqb p c.path) c.stage Closed f) (cases_Bool (eqb p c.path))
stage_here old p (Gathering c S k) = cond-true (eqb p p) _ _ (eq-eqb p p refl)
stage_here old p (Building c) = cond-true (eqb p p) _ _ (eq-eqb p p refl)
stage_here old p (Voting b S) = cond-true (eqb p p) _ _ (eq-eqb p p refl)

-- if one path has an open claim, the others don't
stage_one : {V : Type 0} (old : Option (OpenClaim V)) (p q : ℕ) → (q ≡ p → ⊥) → (stage_at old p ≡ Closed → ⊥)
    → stage_at old q ≡ Closed
stage_one None p q ne some = refl
stage_one (Some c) p q ne some =
    ⊎_elim
    (λ t. cond-false (eqb q c.path) c.stage Closed (ne_eqb q c.path (λ e. ne (e ∙ sym (eqb-true p c.path t)))))
    (λ f. absurd (some (cond-false (eqb p c.path) c.stage Closed f)))
    (cases_Bool (eqb p c.path))

-- so the other paths keep their stage, if the step opens no claim
pub stage_there : {V : Type 0} (old : Option (OpenClaim V)) (p q : ℕ) (stage : Stage V) → (q ≡ p → ⊥)
    → (stage_at old p ≡ Closed → stage ≡ Closed) → stage_at (claim_then old p stage) q ≡ stage_at old q
stage_there None p q Closed ne closed = refl
stage_there (Some c) p q Closed ne closed =
    ⊎_elim
    (λ t. ap (λ o. stage_at o q) (cond-true (eqb p c.path) None (Some c) t) ∙ sym (cond-false (eqb q c.path) c.stage Closed (ne_eqb q c.path (λ e. ne (e ∙ sym (eqb-true p c.path t))))))
    (λ f. ap (λ o. stage_at o q) (cond-false (eqb p c.path) None (Some c) f))
    (cases_Bool (eqb p c.path))
stage_there old p q (Gathering c S k) ne closed = cond-false (eqb q p) _ _ (ne_eqb q p ne) ∙ sym (stage_one old p q ne (λ e. absurd (let w = closed e in cc)))
stage_there old p q (Building c) ne closed = cond-false (eqb q p) _ _ (ne_eqb q p ne) ∙ sym (stage_one old p q ne (λ e. absurd (let w = closed e in cc)))
stage_there old p q (Voting b S) ne closed = cond-false (eqb q p) _ _ (ne_eqb q p ne) ∙ sym (stage_one old p q ne (λ e. absurd (let w = closed e in cc)))

-- for its path, a new datagram is put in front
for_here : {V : Type 0} (p : ℕ) (s : Option (Message V)) (ds : List (Datagram V))
    → for_path p (add_datagram p s ds) ≡ add_sent s (for_path p ds)
for_here p None ds = refl
for_here p (Some m) ds = cond-true (eqb p p) _ _ (eq-eqb p p refl)

-- for other paths nothing is added
for_there : {V : Type 0} (p q : ℕ) (s : Option (Message V)) (ds : List (Datagram V)) → (q ≡ p → ⊥)
    → for_path q (add_datagram p s ds) ≡ for_path q ds
for_there p q None ds ne = refl
for_there p q (Some m) ds ne = cond-false (eqb q p) _ _ (ne_eqb q p ne)

module _ (V : Type 0) (enough : Quorums) where
  -- a step of i that says nothing changes no other member
  silent_other : (w : World V) (i j : ℕ) (b : Bool) (y : Member V) → (j ≡ i → ⊥)
      → (after_any w i (when b (Some (still y)))).members j ≡ w.members j
  silent_other w i j b y ne = cond_both b (Some (still y)) None (λ o. (after_any w i o).members j ≡ w.members j) (λ e. put_other w.members i j y ne) (λ e. refl)

  -- the effect of an event on other paths changes only its own member
  pub elsewhere_other : (w : World V) (e : Event V) (j : ℕ) → (j ≡ member_of e → ⊥)
      → (run enough (elsewhere e) w).members j ≡ w.members j
  elsewhere_other w (Take i (Start above)) j ne = silent_other (after_event enough w (Stop i)) i j _ _ ne ∙ silent_other w i j _ _ ne
  elsewhere_other w (Take i (Built v)) j ne = refl
  elsewhere_other w (Take i Failed) j ne = refl
  elsewhere_other w (Take i Nudge) j ne = refl
  elsewhere_other w (Take i (Deliver k)) j ne = refl
  elsewhere_other w (Take i Inquire) j ne = refl
  elsewhere_other w (Stop i) j ne = silent_other w i j _ _ ne
  elsewhere_other w (StopIn i input) j ne = silent_other w i j _ _ ne
  elsewhere_other w (Restart i) j ne = silent_other w i j _ _ ne

  -- the net after a step of node i for path p, which leaves the node x and sends s
  abbrev pub net_with : Net V → ℕ → ℕ → Node V → Option (Message V) → Net V
  net_with w i p x s = record {
    nodes = slice_set w.nodes i x;
    sent = add_datagram p s w.sent;
    list = list_with p w.list (lookup w.list p) (decided_value enough (for_path p (add_datagram p s w.sent)) (for_path p (add_datagram p s w.sent)));
  }

  -- a step with the same effect on its path and elsewhere preserves the correspondence of net and
  -- cluster
  pub matched : (w : Net V) (c : Cluster V) → Matches V w c → (p : ℕ) (e : Event V) (o : Outcome V) (x : Node V)
      → outcome enough (c.at p) e ≡ Some o → view x p ≡ o.member
      → ((q : ℕ) → (q ≡ p → ⊥) → (run enough (elsewhere e) (c.at q)).members (member_of e) ≡ view x q)
      → Matches V (net_with w (member_of e) p x o.send) (cluster_after enough c p e)
  matched w c m p e o x answered here there = record {
    members = λ q j y g. cond_both (eqb q p) (after_event enough (c.at q) e) (run enough (elsewhere e) (c.at q)) (λ u. u.members j ≡ view y q)
        (λ same. let P : ℕ → Type 0 = λ q. (after_event enough (c.at q) e).members j ≡ view y q in subst P (sym (eqb-true q p same)) (at_path j y g))
        (λ other. elsewhere_path q (eqb-false q p other) j y g);
    sent = λ q. cond_both (eqb q p) (after_event enough (c.at q) e) (run enough (elsewhere e) (c.at q)) (λ u. u.sent ≡ for_path q (add_datagram p o.send w.sent))
        (λ same. let P : ℕ → Type 0 = λ q. (after_event enough (c.at q) e).sent ≡ for_path q (add_datagram p o.send w.sent) in subst P (sym (eqb-true q p same)) sent_here)
        (λ other. elsewhere_sent V enough (c.at q) e ∙ (m.sent q ∙ sym (for_there p q o.send w.sent (eqb-false q p other))));
    list = ap₂ (λ l s. list_with p l (lookup l p) (decided_value enough s s)) m.list sent_here;
  }
    where
      happened : after_event enough (c.at p) e ≡ after (c.at p) (member_of e) o
      happened = ap (after_any (c.at p) (member_of e)) answered

      sent_here : (after_event enough (c.at p) e).sent ≡ for_path p (add_datagram p o.send w.sent)
      sent_here = ap (λ u. u.sent) (ap (after_any (c.at p) (member_of e)) answered) ∙ (ap (add_sent o.send) (m.sent p) ∙ sym (for_here p o.send w.sent))

      at_path : (j : ℕ) (y : Node V) → slice_get (slice_set w.nodes (member_of e) x) j ≡ Some y
          → (after_event enough (c.at p) e).members j ≡ view y p
      at_path j y g = ap (λ u. u.members j) (ap (after_any (c.at p) (member_of e)) answered) ∙ ⊎_elim
          (λ h. ap (put (c.at p).members (member_of e) o.member) h.0 ∙ (put_same (c.at p).members (member_of e) o.member ∙ (sym here ∙ ap (λ z. view z p) (sym h.1))))
          (λ h. put_other (c.at p).members (member_of e) j o.member h.0 ∙ m.members p j y h.1)
          (get_set w.nodes (member_of e) j x y g)

      elsewhere_path : (q : ℕ) → (q ≡ p → ⊥) → (j : ℕ) (y : Node V)
          → slice_get (slice_set w.nodes (member_of e) x) j ≡ Some y
          → (run enough (elsewhere e) (c.at q)).members j ≡ view y q
      elsewhere_path q ne j y g = ⊎_elim
          (λ h. ap (run enough (elsewhere e) (c.at q)).members h.0 ∙ (there q ne ∙ ap (λ z. view z q) (sym h.1)))
          (λ h. elsewhere_other (c.at q) e j h.0 ∙ m.members q j y h.1)
          (get_set w.nodes (member_of e) j x y g)

  -- A tame step keeps its member up, and opens no claim.
  abbrev pub IsTame : Member V → Outcome V → Type 0
  IsTame x o = (o.member.up ≡ x.up) × (x.stage ≡ Closed → o.member.stage ≡ Closed)

  -- each step except opening a claim is tame
  on_quorum_tame : (x : Member V) (c : Claim) (k : Option (Ballot V)) → (x.stage ≡ Closed → ⊥)
      → IsTame x (on_quorum x c k)
  on_quorum_tame x c None ne = (refl, λ e. absurd (ne e))
  on_quorum_tame x c (Some b) ne = (refl, λ e. absurd (ne e))

  on_promise_tame : (x : Member V) (stage : Stage V) (p : PromiseOf V) → x.stage ≡ stage
      → IsTame x (on_promise enough x stage p)
  on_promise_tame x Closed p is = (refl, λ e. e)
  on_promise_tame x (Gathering c S k) p is =
      cond_both (claim_same p.claim c) _ _ (IsTame x)
      (λ t. cond_both (enough (with_member S p.member)) _ _ (IsTame x) (λ m. on_quorum_tame x c (kept_report k p.report) (λ e. cc)) (λ m. (refl, λ e. absurd cc)))
      (λ f. (refl, λ e. e))
  on_promise_tame x (Building c) p is = (refl, λ e. e)
  on_promise_tame x (Voting b S) p is = (refl, λ e. e)

  on_vote_tame : (x : Member V) (stage : Stage V) (m : ℕ) (c : Claim) → x.stage ≡ stage
      → IsTame x (on_vote enough x stage m c)
  on_vote_tame x Closed m c is = (refl, λ e. e)
  on_vote_tame x (Gathering d S k) m c is = (refl, λ e. e)
  on_vote_tame x (Building d) m c is = (refl, λ e. e)
  on_vote_tame x (Voting b S) m c is =
      cond_both (claim_same c b.claim) _ _ (IsTame x)
      (λ t. cond_both (enough (with_member S m)) _ _ (IsTame x) (λ f. (refl, λ e. refl)) (λ f. (refl, λ e. absurd cc)))
      (λ f. (refl, λ e. e))

  on_agreed_tame : (x : Member V) (h : Option V) (v : V) → IsTame x (on_agreed x h v)
  on_agreed_tame x None v = (refl, λ e. refl)
  on_agreed_tame x (Some u) v = (refl, λ e. e)

  on_ask_tame : (x : Member V) (h : Option V) → IsTame x (on_ask x h)
  on_ask_tame x None = (refl, λ e. e)
  on_ask_tame x (Some v) = (refl, λ e. e)

  pub on_message_tame : (i : ℕ) (x : Member V) (m : Message V) → IsTame x (on_message enough i x m)
  on_message_tame i x (Offer c) = cond_both (is_above c x.promised) _ _ (IsTame x) (λ t. (refl, λ e. e)) (λ f. cond_both (is_promised c x.promised && not (is_voted c x.voted)) _ _ (IsTame x) (λ t. (refl, λ e. e)) (λ f. (refl, λ e. e)))
  on_message_tame i x (Promise p) = on_promise_tame x x.stage p refl
  on_message_tame i x (Propose b) =
      cond_both (not (is_below b.claim x.promised) && not (is_voted b.claim x.voted)) _ _ (IsTame x) (λ t. (refl, λ e. e)) (λ f. cond_both (is_voted b.claim x.voted && is_promised b.claim x.promised) _ _ (IsTame x) (λ t. (refl, λ e. e)) (λ f. (refl, λ e. e)))
  on_message_tame i x (Vote m c) = on_vote_tame x x.stage m c refl
  on_message_tame i x (Nay m c p) = (refl, λ e. e)
  on_message_tame i x (Agreed v) = on_agreed_tame x x.held v
  on_message_tame i x Ask = on_ask_tame x x.held

  pub on_built_tame : (x : Member V) (stage : Stage V) (v : V) → x.stage ≡ stage → IfSome (on_built x stage v) (IsTame x)
  on_built_tame x Closed v is = tt
  on_built_tame x (Gathering c S k) v is = tt
  on_built_tame x (Building c) v is = (refl, λ e. absurd cc)
  on_built_tame x (Voting b S) v is = tt

  pub on_failed_tame : (x : Member V) (stage : Stage V) → IfSome (on_failed x stage) (IsTame x)
  on_failed_tame x Closed = tt
  on_failed_tame x (Gathering c S k) = tt
  on_failed_tame x (Building c) = (refl, λ e. refl)
  on_failed_tame x (Voting b S) = tt

  pub on_nudge_tame : (x : Member V) (stage : Stage V) → IfSome (on_nudge x stage) (IsTame x)
  on_nudge_tame x Closed = tt
  on_nudge_tame x (Gathering c S k) = (refl, λ e. e)
  on_nudge_tame x (Building c) = (refl, λ e. e)
  on_nudge_tame x (Voting b S) = (refl, λ e. e)

  pub on_inquire_tame : (x : Member V) (h : Option V) → IfSome (on_inquire x h) (IsTame x)
  on_inquire_tame x None = (refl, λ e. e)
  on_inquire_tame x (Some v) = tt

  -- the node for the path of its step, and for the others
  pub view_here : (x : Node V) (p : ℕ) (m : Member V) → view (node_with x p m) p ≡ m
  view_here x p m =
      let f = put_same x.facts p (facts_of m) in
      let n = stage_here x.claim p m.stage in
      λ k. record { opened = (f k).opened; promised = (f k).promised; voted = (f k).voted; held = (f k).held; up = m.up; stage = n k }

  pub view_there : (x : Node V) (p q : ℕ) (m : Member V) → (q ≡ p → ⊥) → m.up ≡ x.up
      → ((view x p).stage ≡ Closed → m.stage ≡ Closed) → view (node_with x p m) q ≡ view x q
  view_there x p q m ne up closed =
      let f = put_other x.facts p q (facts_of m) ne in
      let n = stage_there x.claim p q m.stage ne closed in
      λ k. record { opened = (f k).opened; promised = (f k).promised; voted = (f k).voted; held = (f k).held; up = up k; stage = n k }

  -- opening a claim leaves the other paths without one
  pub view_opened : (x : Node V) (p q : ℕ) (m : Member V) (c : Claim) (S : Members) (r : Option (Ballot V)) → (q ≡ p → ⊥)
      → m.up ≡ true → m.stage ≡ Gathering c S r
      → view (node_with x p m) q ≡ record (view x q) { up = true; stage = Closed }
  view_opened x p q m c S r ne up stage =
      let f = put_other x.facts p q (facts_of m) ne in
      let n : stage_at (claim_then x.claim p m.stage) q ≡ Closed = ap (λ o. stage_at (claim_then x.claim p o) q) stage ∙ cond-false (eqb q p) (Gathering c S r) Closed (ne_eqb q p ne) in
      λ k. record { opened = (f k).opened; promised = (f k).promised; voted = (f k).voted; held = (f k).held; up = up k; stage = n k }

  -- a stopped node has no open claim, for the path of its step or for the others
  pub view_halted_here : (x : Node V) (p : ℕ) (m : Member V) → view (halted_with x p m) p ≡ down m
  view_halted_here x p m =
      let f = put_same x.facts p (facts_of m) in
      λ k. record { opened = (f k).opened; promised = (f k).promised; voted = (f k).voted; held = (f k).held; up = false; stage = Closed }

  pub view_halted_there : (x : Node V) (p q : ℕ) (m : Member V) → (q ≡ p → ⊥)
      → view (halted_with x p m) q ≡ down (view x q)
  view_halted_there x p q m ne =
      let f = put_other x.facts p q (facts_of m) ne in
      λ k. record { opened = (f k).opened; promised = (f k).promised; voted = (f k).voted; held = (f k).held; up = false; stage = Closed }

  -- the effect of a stop and of a restart on a member
  pub stop_here : (u : World V) (i : ℕ) → (u.members i).up ≡ true
      → (after_event enough u (Stop i)).members i ≡ down (u.members i)
  stop_here u i up = ap (λ b. (after_any u i (when b (Some (still (down (u.members i)))))).members i) up ∙ put_same u.members i (down (u.members i))

  pub restart_here : (u : World V) (i : ℕ) → (u.members i).up ≡ false
      → (after_event enough u (Restart i)).members i ≡ record (u.members i) { up = true; stage = Closed }
  restart_here u i up = ap (λ b. (after_any u i (when (not b) (Some (still (record (u.members i) { up = true; stage = Closed }))))).members i) up ∙ put_same u.members i _

  -- a stop and a restart only drop the open claim
  pub dropped_here : (u : World V) (i : ℕ) → (u.members i).up ≡ true
      → (after_event enough (after_event enough u (Stop i)) (Restart i)).members i ≡ record (u.members i) { up = true; stage = Closed }
  dropped_here u i up =
      let s = stop_here u i up in
      restart_here (after_event enough u (Stop i)) i (ap (λ m. m.up) s) ∙ ap (λ (m : Member V). record m { up = true; stage = Closed }) s
