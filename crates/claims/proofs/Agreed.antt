-- What is agreed stays agreed.
use Rattle.std.proofs.Common.{◌≡◌, ℕ, Bool, true, false, List, [], ◌∷◌, ◌++◌, Option, Some, None, IfSome, refl, inl, inr, ⊎_elim, cond, subst, sym, ap, ◌∙◌}
use Rattle.std.proofs.lemmas.Bool.{cond-true, cond-false, cases_Bool, or_right, false≢true}
use Rattle.claims.specs.Claims.{AtMost}
use Rattle.claims.specs.Quorums.{Quorums, AreQuorums}
use Rattle.claims.specs.Votes.{Ballot, Has, IsLawful, IsChosen, ballot}
use Rattle.claims.specs.Messages.{Message, Offer, Promise, Propose, Vote, Nay, Agreed, Ask}
use Rattle.claims.specs.Step.{Outcome}
use Rattle.claims.specs.World.{WasProposed, WasPromised, WasVoted, World, Event, after_any, add_sent, member_of, outcome, after_event, start, run}
use Rattle.claims.specs.Agreed.{IsValue, IsBuilt, Builds, voters, IsAgreed, decided_value, agreed_then, agreed_from, agreed_value}
use Rattle.claims.proofs.Synod.{one_value, repeats}
use Rattle.claims.proofs.Kept.{vote_sent}
use Rattle.claims.proofs.Sound.{IsDone, IsSound}
use Rattle.claims.proofs.Steps.{start_ok, after_event_ok, run_ok}

-- running a concatenation of events is running the first part, then the second
pub run_append : {V : Type 0} (enough : Quorums) (early late : List (Event V)) (w : World V)
    → run enough (early ++ late) w ≡ run enough late (run enough early w)
run_append enough [] late w = refl
run_append enough (e ∷ es) late w = run_append enough es late (after_event enough w e)

-- so the agreed value can be computed in two parts
agreed_append : {V : Type 0} (enough : Quorums) (early late : List (Event V)) (w : World V) (a : Option V)
    → agreed_from enough (early ++ late) w a ≡ agreed_from enough late (run enough early w) (agreed_from enough early w a)
agreed_append enough [] late w a = refl
agreed_append enough (e ∷ es) late w a = agreed_append enough es late (after_event enough w e) (agreed_then enough (after_event enough w e) a)

-- an agreed value stays
agreed_kept : {V : Type 0} (enough : Quorums) (events : List (Event V)) (w : World V) (v : V)
    → agreed_from enough events w (Some v) ≡ Some v
agreed_kept enough [] w v = refl
agreed_kept enough (e ∷ es) w v = agreed_kept enough es (after_event enough w e) v

-- what is agreed early is agreed later
pub stays_agreed : {V : Type 0} (enough : Quorums) (early late : List (Event V)) (v : V)
    → agreed_value enough early ≡ Some v → agreed_value enough (early ++ late) ≡ Some v
stays_agreed enough early late v e =
    agreed_append enough early late start None ∙ (ap (agreed_from enough late (run enough early start)) e ∙ agreed_kept enough late (run enough early start) v)

-- the agreed value, if a value is done
pub is_agreed : {V : Type 0} (enough : Quorums) (w : World V) (v : V) (a : Option V) → IsDone enough w v
    → IsValue enough w a → a ≡ Some v
is_agreed enough w v None d h = absurd (h d.0 d.1)
is_agreed enough w v (Some u) d h = ap (λ x. Some x) (sym (h.1 d.0 d.1) ∙ d.2)

module _ (V : Type 0) (enough : Quorums) (quorums : AreQuorums enough) (Good : V → Type 0) where
  -- a sound world is lawful
  pub lawful : (w : World V) → IsSound V enough Good w
      → IsLawful V enough (WasProposed w) (WasPromised w) (WasVoted w)
  lawful w s = record {
    one = s.one;
    votes = λ x h. (s.noted x h).proposed;
    bounds = λ p b h. (s.said (Promise p) h).bounds b;
    reports = λ p h. (s.said (Promise p) h).reports;
    backed = λ b h. (s.said (Propose b) h).0;
  }

  -- if the votes sent for a ballot are enough, so are the votes noted, for the one value that was
  -- proposed
  chosen : (w : World V) → IsSound V enough Good w → (b : Ballot V) → IsAgreed enough w b
      → IsChosen V enough (WasVoted w) b
  chosen w s b a = record {
    voters = voters w.sent b.claim;
    majority = a.0;
    voted = λ m e.
        let v = s.said (Vote m b.claim) (vote_sent w.sent b.claim m e) in
        let P : V → Type 0 = λ v. WasVoted w (record { member = m; ballot = ballot b.claim v }) in
        subst P (s.one b.claim v.0 b.value (s.noted _ v.1).proposed a.1) v.1;
  }

  -- a proposal at or above what is agreed repeats its value
  pub repeats_agreed : (w : World V) → IsSound V enough Good w → (b d : Ballot V) → IsAgreed enough w b
      → WasProposed w d → AtMost b.claim d.claim → d.value ≡ b.value
  repeats_agreed w s b d a p le = repeats V enough quorums (WasProposed w) (WasPromised w) (WasVoted w) (lawful w s) b (chosen w s b a) d.claim le d.value p

  -- two agreed ballots have the same value
  pub agree : (w : World V) → IsSound V enough Good w → (a b : Ballot V) → IsAgreed enough w a → IsAgreed enough w b
      → a.value ≡ b.value
  agree w s a b x y = one_value V enough quorums _ _ _ (lawful w s) a b (chosen w s a x) (chosen w s b y)

  -- what was sent stays sent, so what is agreed stays so
  agreed_more : (w : World V) (i : ℕ) (o : Option (Outcome V)) (b : Ballot V) → IsAgreed enough w b
      → IsAgreed enough (after_any w i o) b
  agreed_more w i None b a = a
  agreed_more w i (Some o) b a = more o.send
    where
      more : (s : Option (Message V))
          → (enough (voters (add_sent s w.sent) b.claim) ≡ true) × Has (add_sent s w.sent) (Propose b)
      more None = a
      more (Some m) = (quorums.grow (voters w.sent b.claim) (voters (m ∷ w.sent) b.claim) (λ k e. or_right _ _ e) a.0, inr a.1)

  -- what is agreed is agreed after more events
  pub agreed_later : (w : World V) (events : List (Event V)) (b : Ballot V) → IsAgreed enough w b
      → IsAgreed enough (run enough events w) b
  agreed_later w [] b a = a
  agreed_later w (e ∷ es) b a = agreed_later (after_event enough w e) es b (agreed_more w (member_of e) (outcome enough w e) b a)

  -- `decided_value` finds only a proposal that is agreed
  pub found : (all xs : List (Message V)) (v : V) → decided_value enough all xs ≡ Some v
      → (b : Ballot V) × ((enough (voters all b.claim) ≡ true) × Has xs (Propose b)) × (b.value ≡ v)
  found all [] v e = absurd cc
  found all (Propose b ∷ xs) v e = split (enough (voters all b.claim)) refl e (λ f. found all xs v f)
    where
      split : (t : Bool) → enough (voters all b.claim) ≡ t
          → cond t (Some b.value) (decided_value enough all xs) ≡ Some v
          → (decided_value enough all xs ≡ Some v → (b' : Ballot V) × ((enough (voters all b'.claim) ≡ true) × Has xs (Propose b')) × (b'.value ≡ v))
          → (b' : Ballot V) × ((enough (voters all b'.claim) ≡ true) × Has (Propose b ∷ xs) (Propose b')) × (b'.value ≡ v)
      split true t f rest = (b, (t, inl refl), cc)
      split false t f rest = let r = rest f in (r.0, ((r.1).0, inr (r.1).1), r.2)
  found all (Offer c ∷ xs) v e = let r = found all xs v e in (r.0, ((r.1).0, inr (r.1).1), r.2)
  found all (Promise p ∷ xs) v e = let r = found all xs v e in (r.0, ((r.1).0, inr (r.1).1), r.2)
  found all (Vote m c ∷ xs) v e = let r = found all xs v e in (r.0, ((r.1).0, inr (r.1).1), r.2)
  found all (Nay m c p ∷ xs) v e = let r = found all xs v e in (r.0, ((r.1).0, inr (r.1).1), r.2)
  found all (Agreed u ∷ xs) v e = let r = found all xs v e in (r.0, ((r.1).0, inr (r.1).1), r.2)
  found all (Ask ∷ xs) v e = let r = found all xs v e in (r.0, ((r.1).0, inr (r.1).1), r.2)

  -- if `decided_value` finds nothing, no proposal has a quorum of votes
  none_found : (all xs : List (Message V)) → decided_value enough all xs ≡ None → (b : Ballot V)
      → enough (voters all b.claim) ≡ true → Has xs (Propose b) → ⊥
  none_found all [] e b t h = h
  none_found all (Propose a ∷ xs) e b t h =
      elim (cases_Bool (enough (voters all a.claim))) [
        | inl t1 ↦ absurd (let wrong : Some a.value ≡ None = sym (cond-true _ _ _ t1) ∙ e in cc)
        | inr t0 ↦ ⊎_elim (λ k. false≢true (sym t0 ∙ (let same : a ≡ b = cc in ap (λ x. enough (voters all x.claim)) same ∙ t)))
            (none_found all xs (sym (cond-false _ _ _ t0) ∙ e) b t) h
      ]
  none_found all (Offer c ∷ xs) e b t h = ⊎_elim (λ k. absurd cc) (none_found all xs e b t) h
  none_found all (Promise p ∷ xs) e b t h = ⊎_elim (λ k. absurd cc) (none_found all xs e b t) h
  none_found all (Vote m c ∷ xs) e b t h = ⊎_elim (λ k. absurd cc) (none_found all xs e b t) h
  none_found all (Nay m c p ∷ xs) e b t h = ⊎_elim (λ k. absurd cc) (none_found all xs e b t) h
  none_found all (Agreed u ∷ xs) e b t h = ⊎_elim (λ k. absurd cc) (none_found all xs e b t) h
  none_found all (Ask ∷ xs) e b t h = ⊎_elim (λ k. absurd cc) (none_found all xs e b t) h

  -- an agreed ballot makes its value the agreed one
  value_is : (w : World V) → IsSound V enough Good w → (b : Ballot V) (v : V) → IsAgreed enough w b → b.value ≡ v
      → IsValue enough w (Some v)
  value_is w s b v a e = ((b, a, e), λ d x. agree w s d b x a ∙ e)

  -- `agreed_then` is the agreed value after an event
  pub value_then : (w : World V) → IsSound V enough Good w → (e : Event V) → ((v : V) → Builds w e v → Good v)
      → (a : Option V) → IsValue enough w a
      → IsValue enough (after_event enough w e) (agreed_then enough (after_event enough w e) a)
  value_then w s e fine None h = split (decided_value enough (after_event enough w e).sent (after_event enough w e).sent) refl
    where
      split : (o : Option V) → decided_value enough (after_event enough w e).sent (after_event enough w e).sent ≡ o
          → IsValue enough (after_event enough w e) o
      split None d = λ b a. none_found (after_event enough w e).sent (after_event enough w e).sent d b a.0 a.1
      split (Some v) d = let r = found (after_event enough w e).sent (after_event enough w e).sent v d in value_is (after_event enough w e) (after_event_ok V enough quorums Good w s e fine) r.0 v r.1 r.2
  value_then w s e fine (Some v) h = let r = h.0 in value_is _ (after_event_ok V enough quorums Good w s e fine) r.0 v (agreed_more w (member_of e) (outcome enough w e) r.0 r.1) r.2

  -- `agreed_from` is the agreed value after all events
  pub value_from : (events : List (Event V)) (w : World V) → IsSound V enough Good w
      → ((v : V) → IsBuilt enough w events v → Good v) → (a : Option V) → IsValue enough w a
      → IsValue enough (run enough events w) (agreed_from enough events w a)
  value_from [] w s fine a h = h
  value_from (e ∷ es) w s fine a h = value_from es (after_event enough w e) (after_event_ok V enough quorums Good w s e (λ v b. fine v (inl b))) (λ v b. fine v (inr b)) _ (value_then w s e (λ v b. fine v (inl b)) a h)

  -- a done value is the agreed value, and is good
  pub done_value : (w : World V) → IsSound V enough Good w → (v : V) → IsDone enough w v → Good v
  done_value w s v d = subst Good d.2 (s.said _ (d.1).1).2

module _ (V : Type 0) (enough : Quorums) (quorums : AreQuorums enough) (events : List (Event V)) where
  -- every value that was proposed was built by one of the events
  pub sound : IsSound V enough (IsBuilt enough start events) (run enough events start)
  sound = run_ok V enough quorums (IsBuilt enough start events) start (start_ok V enough quorums (IsBuilt enough start events)) events (λ v b. b)

  -- the agreed value of the events is what is agreed in the world after them
  pub value_is_agreed : IsValue enough (run enough events start) (agreed_value enough events)
  value_is_agreed = value_from V enough quorums (IsBuilt enough start events) events start (start_ok V enough quorums (IsBuilt enough start events)) (λ v b. b) None (λ b a. a.1)

  -- what a member holds is the agreed value
  pub held_is_agreed : (i : ℕ) (v : V) → ((run enough events start).members i).held ≡ Some v
      → agreed_value enough events ≡ Some v
  held_is_agreed i v e = let P : Option V → Type 0 = λ o. IfSome o (IsDone enough (run enough events start)) in is_agreed enough (run enough events start) v (agreed_value enough events) (subst P e (sound.held i)) value_is_agreed

  -- the agreed value was built
  pub agreed_is_built : (v : V) → agreed_value enough events ≡ Some v → IsBuilt enough start events v
  agreed_is_built v e =
      let P : Option V → Type 0 = IsValue enough (run enough events start) in
      let h = subst P e value_is_agreed in
      done_value V enough quorums (IsBuilt enough start events) (run enough events start) sound v h.0
