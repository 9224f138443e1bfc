-- What happens to nodes for all paths is what happens to the agreement of each path: the laws of
-- the cluster hold for the net.
use Rattle.std.proofs.Common.{◌≡◌, ℕ, suc, zero, max, true, false, not, ◌&&◌, List, [], ◌∷◌, ◌++◌, Option, Some, None, is_some, refl, inl, inr, subst, sym, ap, ap₂, ◌∙◌, slice_get, slice_set, option_map, replicate, append_assoc, IfSome}
use Rattle.std.proofs.lemmas.Bool.{cond-true, cond-false, cases_Bool, and_from, false≢true}
use Rattle.claims.specs.Claims.{Claim}
use Rattle.claims.specs.Quorums.{Quorums, AreQuorums, nobody}
use Rattle.claims.specs.Messages.{Offer}
use Rattle.claims.specs.Member.{Opened, Member, Closed, Gathering}
use Rattle.claims.specs.Step.{notes_and_says, Input, Start, Built, Failed, Nudge, Deliver, Inquire, Outcome, still, answer, on_message, on_start}
use Rattle.claims.specs.World.{World, Event, Take, Stop, StopIn, Restart, outcome, run, start, when, cut, down}
use Rattle.claims.specs.Agreed.{IsValue, decided_value}
use Rattle.claims.specs.AgreedList.{Needs, Entry, Cluster, Act, lookup, elsewhere, held_by, may_happen, list_with, cluster_after, after_act, after_acts, beginning, IsAllowed, IsMonotone}
use Rattle.claims.specs.Nodes.{Node, Datagram, Net, Asked, Local, Comes, Happening, Does, Halts, HaltsIn, Wakes, view, node_with, halted_with, Reply, may_do, reply, for_path, net_after, net_cut, net_does, net_halts_in, net_halts, net_wakes, net_then, net_run, fresh_node, net_start, Matches}
use Rattle.claims.proofs.Agreed.{found}
use Rattle.claims.proofs.AgreedList.{ordered, held_listed, after_acts-append, after_acts_longer}
use Rattle.claims.proofs.Nodes.{IsTame, comes, dropped_here, matched, net_with, on_built_tame, on_failed_tame, on_inquire_tame, on_message_tame, on_nudge_tame, restart_here, stop_here, view_halted_here, view_halted_there, view_here, view_opened, view_there}

-- a result of `option_map` has a source
map_some : {X Y : Type 0} (f : X → Y) (o : Option X) (r : Y) → option_map f o ≡ Some r
    → (x : X) × (o ≡ Some x) × (f x ≡ r)
map_some f None r e = absurd cc
map_some f (Some x) r e = (x, refl, cc)

-- a step of node i, as a step for only that path
record Replied (V : Type 0) (enough : Quorums) (may : Needs V) (c : Cluster V) (i : ℕ) (x : Node V) (r : Reply V) : Type 0 where
  input : Input V
  answered : answer enough i (view x r.path) (c.at r.path).sent input ≡ Some r.outcome
  allowed : may_happen may c r.path (Take i input) ≡ true
  there : (q : ℕ) → (q ≡ r.path → ⊥)
      → (run enough (elsewhere (Take i input)) (c.at q)).members i ≡ view (node_with x r.path r.outcome.member) q

module _ (V : Type 0) (enough : Quorums) (may : Needs V) (w : Net V) (c : Cluster V) (m : Matches V w c) (i : ℕ) (x : Node V) (is : slice_get w.nodes i ≡ Some x) (up : x.up ≡ true) where
  -- a tame step leaves the other paths unchanged
  tame_there : (p : ℕ) (o : Outcome V) → IsTame V enough (view x p) o → (q : ℕ) → (q ≡ p → ⊥)
      → (c.at q).members i ≡ view (node_with x p o.member) q
  tame_there p o t q ne = m.members q i x is ∙ sym (view_there V enough x p q o.member ne t.0 t.1)

  -- a new claim is a stop and a restart for the other paths
  opened_there : (p above : ℕ) (h : Option V) (o : Outcome V) → on_start i (view x p) h above ≡ Some o → (q : ℕ)
      → (q ≡ p → ⊥)
      → (run enough (elsewhere (Take i (Start above))) (c.at q)).members i ≡ view (node_with x p o.member) q
  opened_there p above (Some v) o e q ne = absurd cc
  opened_there p above None o e q ne =
      let k : Claim = record { round = suc (max above (x.facts p).opened); member = i } in
      let o' : notes_and_says (record (view x p) { opened = k.round; stage = Gathering k nobody None }) (Opened k.round) (Offer k) ≡ o = cc in
      dropped_here V enough (c.at q) i (ap (λ y. y.up) (m.members q i x is) ∙ up)
      ∙ (ap (λ (y : Member V). record y { up = true; stage = Closed }) (m.members q i x is)
      ∙ sym (view_opened V enough x p q o.member k nobody None ne (sym (ap (λ o. o.member.up) o') ∙ up) (sym (ap (λ o. o.member.stage) o'))))

  -- an input to a node for a path is an event for that path
  local_replied : (p : ℕ) (input : Input V) (o : Outcome V) → may_do may x p input ≡ true
      → answer enough i (view x p) [] input ≡ Some o → Replied V enough may c i x (record { path = p; outcome = o })
  local_replied p (Start above) o a e = record { input = Start above; answered = e; allowed = refl; there = opened_there p above (x.facts p).held o e }
  local_replied p (Built v) o a e = record {
    input = Built v;
    answered = e;
    allowed = let same : held_by c i ≡ (λ q. (x.facts q).held) = λ k q. (m.members q i x is k).held in ap (λ f. may f p v) same ∙ a;
    there = let P : Option (Outcome V) → Type 0 = λ o. IfSome o (IsTame V enough (view x p)) in tame_there p o (subst P e (on_built_tame V enough (view x p) (view x p).stage v refl));
  }
  local_replied p Failed o a e = record { input = Failed; answered = e; allowed = refl; there = let P : Option (Outcome V) → Type 0 = λ o. IfSome o (IsTame V enough (view x p)) in tame_there p o (subst P e (on_failed_tame V enough (view x p) (view x p).stage)) }
  local_replied p Nudge o a e = record { input = Nudge; answered = e; allowed = refl; there = let P : Option (Outcome V) → Type 0 = λ o. IfSome o (IsTame V enough (view x p)) in tame_there p o (subst P e (on_nudge_tame V enough (view x p) (view x p).stage)) }
  local_replied p (Deliver k) o a e = absurd (false≢true a)
  local_replied p Inquire o a e = record { input = Inquire; answered = e; allowed = refl; there = let P : Option (Outcome V) → Type 0 = λ o. IfSome o (IsTame V enough (view x p)) in tame_there p o (subst P e (on_inquire_tame V enough (view x p) (view x p).held)) }

  -- a datagram to a node is an event for its path
  replied : (a : Asked V) (r : Reply V) → reply enough may w.sent i x a ≡ Some r → Replied V enough may c i x r
  replied (Local p input) r e =
      elim (cases_Bool (may_do may x p input)) [
        | inl t ↦
            let s = map_some (λ o. record { path = p; outcome = o }) (answer enough i (view x p) [] input) r (sym (cond-true (may_do may x p input) _ _ t) ∙ e) in
            subst (Replied V enough may c i x) s.2 (local_replied p input s.0 t s.1)
        | inr f ↦ absurd (let wrong : None ≡ Some r = sym (cond-false (may_do may x p input) _ _ f) ∙ e in cc)
      ]
  replied (Comes k) r e =
      let s = map_some (λ (d : Datagram V). record { path = d.path; outcome = on_message enough i (view x d.path) d.message }) (slice_get w.sent k) r e in
      let d = s.0 in
      let n = comes w.sent k d s.1 in
      subst (Replied V enough may c i x) s.2 (record {
        input = Deliver n.0;
        answered = ap (λ l. option_map (on_message enough i (view x d.path)) (slice_get l n.0)) (m.sent d.path) ∙ ap (option_map (on_message enough i (view x d.path))) n.1;
        allowed = refl;
        there = tame_there d.path (on_message enough i (view x d.path) d.message) (on_message_tame V enough i (view x d.path) d.message);
      })

  -- an act that may happen has the effect of its event
  act_is : (p : ℕ) (e : Event V) (o : Outcome V) → may_happen may c p e ≡ true → outcome enough (c.at p) e ≡ Some o
      → cluster_after enough c p e ≡ after_act enough may c (record { path = p; event = e })
  act_is p e o a s = sym (cond-true (may_happen may c p e && is_some (outcome enough (c.at p) e)) (cluster_after enough c p e) c (and_from _ _ a (ap is_some s)))

  -- each happening is one act or none
  does_sim : (a : Asked V) (r : Option (Reply V)) → reply enough may w.sent i x a ≡ r
      → (rest : List (Act V)) × Matches V (net_after enough w i x r) (after_acts enough may rest c)
  does_sim a None e = ([], m)
  does_sim a (Some r) e =
      let s = replied a r e in
      let o : outcome enough (c.at r.path) (Take i s.input) ≡ Some r.outcome =
      ap (λ (y : Member V). when y.up (answer enough i y (c.at r.path).sent s.input)) (m.members r.path i x is) ∙ (ap (λ b. when b (answer enough i (view x r.path) (c.at r.path).sent s.input)) up ∙ s.answered) in (
        record { path = r.path; event = Take i s.input } ∷ [],
        subst (Matches V (net_after enough w i x (Some r))) (act_is r.path (Take i s.input) r.outcome s.allowed o)
            (matched V enough w c m r.path (Take i s.input) r.outcome (node_with x r.path r.outcome.member) o (view_here V enough x r.path r.outcome.member) s.there),
      )

-- a path with an entry in the list has that entry's value
settled : (V : Type 0) (enough : Quorums) → AreQuorums enough
    → (u : World V) (p : ℕ) (list : List (Entry V)) (a d : Option V) → IsValue enough u a
    → decided_value enough u.sent u.sent ≡ d → list_with p list a d ≡ list
settled V enough quorums u p list (Some v) d h e = refl
settled V enough quorums u p list None None h e = refl
settled V enough quorums u p list None (Some v) h e = let f = found V enough quorums (λ v. Unit {0}) u.sent u.sent v e in absurd (h f.0 f.1)

module _ (V : Type 0) (enough : Quorums) (quorums : AreQuorums enough) (may : Needs V) (more : IsMonotone may) (w : Net V) (c : Cluster V) (m : Matches V w c) (values : (p : ℕ) → IsValue enough (c.at p) (lookup c.list p)) (i : ℕ) (x : Node V) (is : slice_get w.nodes i ≡ Some x) where
  -- a step that sends nothing leaves the list unchanged
  quiet_matched : (p : ℕ) (y : Node V) (d : Cluster V) → Matches V (net_with V enough w i p y None) d
      → Matches V (record { nodes = slice_set w.nodes i y; sent = w.sent; list = w.list }) d
  quiet_matched p y d n = record { members = n.members; sent = n.sent; list = n.list ∙ same }
    where
      same : list_with p w.list (lookup w.list p) (decided_value enough (for_path p w.sent) (for_path p w.sent)) ≡ w.list
      same = ap₂ (λ l s. list_with p l (lookup l p) (decided_value enough s s)) (sym m.list) (sym (m.sent p)) ∙ (settled V enough quorums (c.at p) p c.list (lookup c.list p) (decided_value enough (c.at p).sent (c.at p).sent) (values p) refl ∙ m.list)

  halts_in_sim : x.up ≡ true → (a : Asked V) (r : Option (Reply V)) → reply enough may w.sent i x a ≡ r
      → (rest : List (Act V)) × Matches V (net_cut w i x r) (after_acts enough may rest c)
  halts_in_sim up a None e = ([], m)
  halts_in_sim up a (Some r) e =
      let s = replied V enough may w c m i x is up a r e in
      let o : outcome enough (c.at r.path) (StopIn i s.input) ≡ Some (cut r.outcome) =
      ap (λ (y : Member V). when y.up (option_map cut (answer enough i y (c.at r.path).sent s.input))) (m.members r.path i x is)
      ∙ (ap (λ b. when b (option_map cut (answer enough i (view x r.path) (c.at r.path).sent s.input))) up ∙ ap (option_map cut) s.answered) in (
        record { path = r.path; event = StopIn i s.input } ∷ [],
        quiet_matched r.path (halted_with x r.path r.outcome.member) _ (subst (Matches V (net_with V enough w i r.path (halted_with x r.path r.outcome.member) None)) (act_is V enough may w c m i x is up r.path (StopIn i s.input) (cut r.outcome) refl o)
            (matched V enough w c m r.path (StopIn i s.input) (cut r.outcome) (halted_with x r.path r.outcome.member) o (view_halted_here V enough x r.path r.outcome.member)
            (λ q ne. stop_here V enough (c.at q) i (ap (λ y. y.up) (m.members q i x is) ∙ up) ∙ (ap down (m.members q i x is) ∙ sym (view_halted_there V enough x r.path q r.outcome.member ne))))),
      )

  halts_sim : x.up ≡ true
      → (rest : List (Act V)) × Matches V (record { nodes = slice_set w.nodes i (record { facts = x.facts; up = false; claim = None }); sent = w.sent; list = w.list }) (after_acts enough may rest c)
  halts_sim up =
      let y : Node V = record { facts = x.facts; up = false; claim = None } in
      let o : outcome enough (c.at 0) (Stop i) ≡ Some (still (down (view x 0))) =
      ap (λ (z : Member V). when z.up (Some (still (down z)))) (m.members 0 i x is) ∙ ap (λ b. when b (Some (still (down (view x 0))))) up in (
        record { path = 0; event = Stop i } ∷ [],
        quiet_matched 0 y _ (subst (Matches V (net_with V enough w i 0 y None)) (act_is V enough may w c m i x is up 0 (Stop i) (still (down (view x 0))) refl o)
            (matched V enough w c m 0 (Stop i) (still (down (view x 0))) y o refl
            (λ q ne. stop_here V enough (c.at q) i (ap (λ y. y.up) (m.members q i x is) ∙ up) ∙ ap down (m.members q i x is)))),
      )

  wakes_sim : x.up ≡ false
      → (rest : List (Act V)) × Matches V (record { nodes = slice_set w.nodes i (record { facts = x.facts; up = true; claim = None }); sent = w.sent; list = w.list }) (after_acts enough may rest c)
  wakes_sim up =
      let y : Node V = record { facts = x.facts; up = true; claim = None } in
      let up_again : Member V → Member V = λ z. record z { up = true; stage = Closed } in
      let o : outcome enough (c.at 0) (Restart i) ≡ Some (still (up_again (view x 0))) =
      ap (λ (z : Member V). when (not z.up) (Some (still (up_again z)))) (m.members 0 i x is) ∙ ap (λ b. when (not b) (Some (still (up_again (view x 0))))) up in (
        record { path = 0; event = Restart i } ∷ [],
        quiet_matched 0 y _ (subst (Matches V (net_with V enough w i 0 y None)) (sym (cond-true (may_happen may c 0 (Restart i) && is_some (outcome enough (c.at 0) (Restart i))) (cluster_after enough c 0 (Restart i)) c (and_from _ _ refl (ap is_some o))))
            (matched V enough w c m 0 (Restart i) (still (up_again (view x 0))) y o refl
            (λ q ne. restart_here V enough (c.at q) i (ap (λ y. y.up) (m.members q i x is) ∙ up) ∙ ap up_again (m.members q i x is)))),
      )

module _ (V : Type 0) (enough : Quorums) (quorums : AreQuorums enough) (may : Needs V) (more : IsMonotone may) where
  after_event_sim : (w : Net V) (c : Cluster V) → Matches V w c
      → ((p : ℕ) → IsValue enough (c.at p) (lookup c.list p)) → (e : Happening V)
      → (rest : List (Act V)) × Matches V (net_then enough may w e) (after_acts enough may rest c)
  after_event_sim w c m values (Does i a) = go (slice_get w.nodes i) refl
    where
      go : (o : Option (Node V)) → slice_get w.nodes i ≡ o
          → (rest : List (Act V)) × Matches V (net_does enough may w i a o) (after_acts enough may rest c)
      go None e = ([], m)
      go (Some x) e = elim (cases_Bool x.up) [
        | inl t ↦ let P : Net V → Type 0 = λ n. (rest : List (Act V)) × Matches V n (after_acts enough may rest c) in subst P (sym (cond-true x.up _ w t)) (does_sim V enough may w c m i x e t a _ refl)
        | inr f ↦ let P : Net V → Type 0 = λ n. (rest : List (Act V)) × Matches V n (after_acts enough may rest c) in subst P (sym (cond-false x.up _ w f)) ([], m)
      ]
  after_event_sim w c m values (Halts i) = go (slice_get w.nodes i) refl
    where
      go : (o : Option (Node V)) → slice_get w.nodes i ≡ o
          → (rest : List (Act V)) × Matches V (net_halts w i o) (after_acts enough may rest c)
      go None e = ([], m)
      go (Some x) e = elim (cases_Bool x.up) [
        | inl t ↦ let P : Net V → Type 0 = λ n. (rest : List (Act V)) × Matches V n (after_acts enough may rest c) in subst P (sym (cond-true x.up _ w t)) (halts_sim V enough quorums may more w c m values i x e t)
        | inr f ↦ let P : Net V → Type 0 = λ n. (rest : List (Act V)) × Matches V n (after_acts enough may rest c) in subst P (sym (cond-false x.up _ w f)) ([], m)
      ]
  after_event_sim w c m values (HaltsIn i a) = go (slice_get w.nodes i) refl
    where
      go : (o : Option (Node V)) → slice_get w.nodes i ≡ o
          → (rest : List (Act V)) × Matches V (net_halts_in enough may w i a o) (after_acts enough may rest c)
      go None e = ([], m)
      go (Some x) e = elim (cases_Bool x.up) [
        | inl t ↦ let P : Net V → Type 0 = λ n. (rest : List (Act V)) × Matches V n (after_acts enough may rest c) in subst P (sym (cond-true x.up _ w t)) (halts_in_sim V enough quorums may more w c m values i x e t a _ refl)
        | inr f ↦ let P : Net V → Type 0 = λ n. (rest : List (Act V)) × Matches V n (after_acts enough may rest c) in subst P (sym (cond-false x.up _ w f)) ([], m)
      ]
  after_event_sim w c m values (Wakes i) = go (slice_get w.nodes i) refl
    where
      go : (o : Option (Node V)) → slice_get w.nodes i ≡ o
          → (rest : List (Act V)) × Matches V (net_wakes w i o) (after_acts enough may rest c)
      go None e = ([], m)
      go (Some x) e = elim (cases_Bool x.up) [
        | inl t ↦ let P : Net V → Type 0 = λ n. (rest : List (Act V)) × Matches V n (after_acts enough may rest c) in subst P (sym (cond-true x.up w _ t)) ([], m)
        | inr f ↦ let P : Net V → Type 0 = λ n. (rest : List (Act V)) × Matches V n (after_acts enough may rest c) in subst P (sym (cond-false x.up w _ f)) (wakes_sim V enough quorums may more w c m values i x e f)
      ]

  -- the acts of a run so far, and those of the happenings that follow
  run_sim : (w : Net V) (before : List (Act V)) → Matches V w (after_acts enough may before beginning)
      → (events : List (Happening V))
      → (rest : List (Act V)) × Matches V (net_run enough may events w) (after_acts enough may (before ++ rest) beginning)
  run_sim w before m [] = ([], let P : Cluster V → Type 0 = Matches V w in subst P (sym (after_acts-append enough may before [] beginning)) m)
  run_sim w before m (e ∷ es) =
      let s = after_event_sim w (after_acts enough may before beginning) m (ordered V enough quorums may more before).values e in
      let P : Cluster V → Type 0 = Matches V (net_then enough may w e) in
      let r = run_sim (net_then enough may w e) (before ++ s.0) (subst P (sym (after_acts-append enough may before s.0 beginning)) s.1) es in
      (s.0 ++ r.0, let Q : List (Act V) → Type 0 = λ rest. Matches V (net_run enough may (e ∷ es) w) (after_acts enough may rest beginning) in subst Q (append_assoc before s.0 r.0) r.1)

  -- the initial net corresponds to the initial cluster
  start_matches : (n : ℕ) → Matches V (net_start n) beginning
  start_matches n = record { members = λ q i x e. all_fresh n i x e q; sent = λ q. refl; list = refl }
    where
      all_fresh : (n i : ℕ) (x : Node V) → slice_get (replicate n fresh_node) i ≡ Some x → (q : ℕ)
          → (start {V = V}).members i ≡ view x q
      all_fresh zero i x e q = absurd cc
      all_fresh (suc n) zero x e q = let f : fresh_node ≡ x = cc in ap (λ y. view y q) f
      all_fresh (suc n) (suc i) x e q = all_fresh n i x e q

  -- after all happenings the net corresponds to a cluster
  pub net_sim : (n : ℕ) (events : List (Happening V))
      → (rest : List (Act V)) × Matches V (net_run enough may events (net_start n)) (after_acts enough may rest beginning)
  net_sim n events = run_sim (net_start n) [] (start_matches n) events

  -- so the laws of the cluster hold for the net
  pub net_allowed : (n : ℕ) (events : List (Happening V))
      → IsAllowed may (net_run enough may events (net_start n)).list
  net_allowed n events = let s = net_sim n events in subst (IsAllowed may) (s.1).list (ordered V enough quorums may more s.0).allowed

  pub net_held : (n : ℕ) (events : List (Happening V)) (i p : ℕ) (x : Node V) (v : V)
      → slice_get (net_run enough may events (net_start n)).nodes i ≡ Some x → (x.facts p).held ≡ Some v
      → lookup (net_run enough may events (net_start n)).list p ≡ Some v
  net_held n events i p x v e h =
      let s = net_sim n events in
      let o = ordered V enough quorums may more s.0 in
      ap (λ l. lookup l p) (sym (s.1).list) ∙ held_listed V enough quorums may more _ (after_acts enough may s.0 beginning) o i p v (ap (λ y. y.held) ((s.1).members p i x e) ∙ h)

  pub net_grows : (n : ℕ) (early late : List (Happening V))
      → (more : List (Entry V)) × ((net_run enough may (early ++ late) (net_start n)).list ≡ more ++ (net_run enough may early (net_start n)).list)
  net_grows n early late =
      let s = net_sim n early in
      let r = run_sim (net_run enough may early (net_start n)) s.0 s.1 late in
      let l = after_acts_longer enough may r.0 (after_acts enough may s.0 beginning) in
      (l.0, ap (λ w. w.list) (net_append early late (net_start n)) ∙ (sym (r.1).list ∙ (ap (λ c. c.list) (after_acts-append enough may s.0 r.0 beginning) ∙ (l.1 ∙ ap (λ k. l.0 ++ k) (s.1).list))))
    where
      net_append : (early late : List (Happening V)) (w : Net V)
          → net_run enough may (early ++ late) w ≡ net_run enough may late (net_run enough may early w)
      net_append [] late w = refl
      net_append (e ∷ es) late w = net_append es late (net_then enough may w e)
