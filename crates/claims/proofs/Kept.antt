-- A step that satisfies `IsStep` preserves soundness of a world.
use Rattle.std.proofs.Common.{◌==◌, ◌≡◌, ℕ, ◌≤◌, ◌⊎◌, List, [], ◌∷◌, Option, Some, None, IfSome, true, refl, inl, inr, ⊎_elim, arith, eqb, eqb-true, eq-eqb, subst, subst₂, sym, ap, ◌∙◌, le_refl}
use Rattle.std.proofs.lemmas.Bool.{cases_Bool, cond_both, cond-true, eqb-false, false≢true, and_parts, and_from, or_cases, or_left, or_right}
use Rattle.claims.specs.Claims.{Claim, AtMost}
use Rattle.claims.specs.Quorums.{Members, Quorums, AreQuorums}
use Rattle.claims.specs.Votes.{Ballot, PromiseOf, VoteOf, Has, Reaches, IsReported, IsKept, IsGathered, ballot}
use Rattle.claims.specs.Messages.{Message, Offer, Promise, Propose, Vote, Nay, Agreed, Ask}
use Rattle.claims.specs.Member.{Note, Opened, Promised, Voted, Held, vote_of, Stage, Closed, Gathering, Building, Voting, Member}
use Rattle.claims.specs.Step.{Outcome}
use Rattle.claims.specs.World.{WasVoted, WasPromised, World, after, put, add_note, add_sent}
use Rattle.claims.specs.Agreed.{is_vote, voters, IsAgreed}
use Rattle.claims.proofs.Order.{apart, claim_same_true}
use Rattle.claims.proofs.Sound.{Holds, IsPromise, IsDone, IsSaid, IsCast, IsVoted, IsFresh, IsOpen, IsSound, Grows, KeepsFacts, IsOnly, IsNew, IsStep}

-- what holds of the new value at i, and of the old values elsewhere, holds of all
pub put_each : {X : Type 0} (P : ℕ → X → Type 0) (f : ℕ → X) (i : ℕ) (x : X) → P i x
    → ((j : ℕ) → (j ≡ i → ⊥) → P j (f j)) → (j : ℕ) → P j (put f i x j)
put_each P f i x here there j =
    cond_both (eqb j i) x (f j) (P j) (λ e. let Q : ℕ → Type 0 = λ k. P k x in subst Q (sym (eqb-true j i e)) here) (λ e. there j (eqb-false j i e))

-- the new value is at i
pub put_same : {X : Type 0} (f : ℕ → X) (i : ℕ) (x : X) → put f i x i ≡ x
put_same f i x = cond-true (eqb i i) x (f i) (eq-eqb i i refl)

-- a promise at or above a claim is at or above every lower claim
pub holds_down : (p : Option Claim) (c d : Claim) → Holds p c → AtMost d c → Holds p d
holds_down None c d h l = absurd h
holds_down (Some p) c d h l = omega arith

-- likewise for a report
reaches_down : {V : Type 0} (r : Option (Ballot V)) (c d : Claim) → Reaches r c → AtMost d c → Reaches r d
reaches_down None c d h l = absurd h
reaches_down (Some r) c d h l = omega arith

-- the last vote is at or below what is promised
reaches_promised : {V : Type 0} (log : List (Note V)) (r : Option (Ballot V)) (p : Option Claim) (d : Claim)
    → IsVoted log r p → Reaches r d → Holds p d
reaches_promised log None p d v h = absurd h
reaches_promised log (Some b) p d v h = holds_down p b.claim d v.1 h

-- a member counts as a voter if and only if it sent a vote
pub vote_sent : {V : Type 0} (sent : List (Message V)) (c : Claim) (m : ℕ) → voters sent c m ≡ true
    → Has sent (Vote m c)
vote_sent [] c m e = absurd (false≢true e)
vote_sent {V} (x ∷ xs) c m e = ⊎_elim (λ h. inl (is x h)) (λ h. inr (vote_sent xs c m h)) (or_cases _ _ e)
  where
    is : (x : Message V) → is_vote c m x ≡ true → x ≡ Vote m c
    is (Vote k d) h = let b = and_parts _ _ h in let p = eqb-true k m b.0 in let q = claim_same_true d c b.1 in cc
    is (Offer d) h = absurd (false≢true h)
    is (Promise p) h = absurd (false≢true h)
    is (Propose b) h = absurd (false≢true h)
    is (Nay k d p) h = absurd (false≢true h)
    is (Agreed v) h = absurd (false≢true h)
    is Ask h = absurd (false≢true h)

pub sent_vote : {V : Type 0} (sent : List (Message V)) (c : Claim) (m : ℕ) → Has sent (Vote m c)
    → voters sent c m ≡ true
sent_vote [] c m h = absurd h
sent_vote {V} (x ∷ xs) c m h =
    ⊎_elim
    (λ e. or_left _ _ (let P : Message V → Type 0 = λ x. is_vote c m x ≡ true in subst P (sym e) (and_from _ _ (eq-eqb m m refl) (and_from _ _ (eq-eqb c.round c.round refl) (eq-eqb c.member c.member refl)))))
    (λ old. or_right _ _ (sent_vote xs c m old))
    h

-- what was noted stays
noted_more : {V : Type 0} (n : Option (Note V)) (log : List (Note V)) (x : Note V) → Has log x
    → Has (add_note n log) x
noted_more None log x h = h
noted_more (Some n) log x h = inr h

-- a vote that is noted now is the step's, or was noted before
noted_new : {V : Type 0} (n : Option (Note V)) (log : List (Note V)) (b : Ballot V) → Has (add_note n log) (Voted b)
    → Has log (Voted b) ⊎ (vote_of n ≡ Some b)
noted_new None log b h = inl h
noted_new (Some (Opened r)) log b h = ⊎_elim (λ e. absurd cc) (λ old. inl old) h
noted_new (Some (Promised c)) log b h = ⊎_elim (λ e. absurd cc) (λ old. inl old) h
noted_new (Some (Voted a)) log b h = ⊎_elim (λ e. inr cc) (λ old. inl old) h
noted_new (Some (Held v)) log b h = ⊎_elim (λ e. absurd cc) (λ old. inl old) h

-- the step's vote is noted now
noted_here : {V : Type 0} (n : Option (Note V)) (log : List (Note V)) (b : Ballot V) → vote_of n ≡ Some b
    → Has (add_note n log) (Voted b)
noted_here None log b e = absurd cc
noted_here (Some (Opened r)) log b e = absurd cc
noted_here (Some (Promised c)) log b e = absurd cc
noted_here (Some (Voted a)) log b e = inl cc
noted_here (Some (Held v)) log b e = absurd cc

-- if the step noted no vote, a vote noted at i after it was noted before it
pub voted_before : {V : Type 0} (w : World V) (i : ℕ) (o : Outcome V) (b : Ballot V) → vote_of o.note ≡ None
    → WasVoted (after w i o) (record { member = i; ballot = b }) → WasVoted w (record { member = i; ballot = b })
voted_before {V} w i o b none h =
    let P : List (Note V) → Type 0 = λ log. Has log (Voted b) in
    ⊎_elim (λ old. old) (λ e. absurd (let wrong : None ≡ Some b = sym none ∙ e in cc)) (noted_new o.note (w.logs i) b (subst P (put_same w.logs i (add_note o.note (w.logs i))) h))

-- the step's vote is noted after it
pub voted_here : {V : Type 0} (w : World V) (i : ℕ) (o : Outcome V) (b : Ballot V) → vote_of o.note ≡ Some b
    → WasVoted (after w i o) (record { member = i; ballot = b })
voted_here {V} w i o b e =
    let P : List (Note V) → Type 0 = λ log. Has log (Voted b) in
    subst P (sym (put_same w.logs i (add_note o.note (w.logs i)))) (noted_here o.note (w.logs i) b e)

module _ (V : Type 0) (enough : Quorums) (quorums : AreQuorums enough) (Good : V → Type 0) where
  -- each fact about one message, vote or member stays true
  pub gathered_on : (w w' : World V) → Grows V w w' → (c : Claim) (S : Members) (k : Option (Ballot V))
      → IsGathered V (WasPromised w) c S k → IsGathered V (WasPromised w') c S k
  gathered_on w w' g c S k h = record {
    promised = λ m e. let p = h.promised m e in (p.0, g.sent _ p.1, p.2);
    reported = on k h.reported;
  }
    where
      on : (k : Option (Ballot V)) → IsKept (WasPromised w) c k → IsKept (WasPromised w') c k
      on None i = tt
      on (Some b) i = (i.0, g.sent _ i.1)

  -- what is agreed stays agreed
  pub agreed_on : (w w' : World V) → Grows V w w' → (b : Ballot V) → IsAgreed enough w b → IsAgreed enough w' b
  agreed_on w w' g b a = (quorums.grow (voters w.sent b.claim) (voters w'.sent b.claim) (λ k e. sent_vote w'.sent b.claim k (g.sent _ (vote_sent w.sent b.claim k e))) a.0, g.sent _ a.1)

  pub done_on : (w w' : World V) → Grows V w w' → (v : V) → IsDone enough w v → IsDone enough w' v
  done_on w w' g v d = (d.0, agreed_on w w' g d.0 d.1, d.2)

  pub held_on : (w w' : World V) → Grows V w w' → (o : Option V) → IfSome o (IsDone enough w)
      → IfSome o (IsDone enough w')
  held_on w w' g None h = tt
  held_on w w' g (Some v) h = done_on w w' g v h

  -- a report stays true
  reported_on : (w w' : World V) → Grows V w w' → (m : ℕ) (c : Claim) (r : Option (Ballot V))
      → IsReported (WasVoted w) m c r → IsReported (WasVoted w') m c r
  reported_on w w' g m c None h = tt
  reported_on w w' g m c (Some b) h = (h.0, g.votes _ h.1)

  -- a promise stays true, whatever is voted later
  promise_on : (w w' : World V) → Grows V w w' → (p : PromiseOf V) → IsPromise V w p → IsPromise V w' p
  promise_on w w' g p h = record {
    holds = g.promised _ _ h.holds;
    bounds = λ b c l. ⊎_elim (λ old. h.bounds b old l) (λ new. absurd (apart p.claim b.claim (new p.claim h.holds) l)) (g.above _ c);
    reports = reported_on w w' g p.member p.claim p.report h.reports;
  }

  -- each message stays as it is
  pub said_on : (w w' : World V) → Grows V w w' → (x : Message V) → IsSaid V enough Good w x
      → IsSaid V enough Good w' x
  said_on w w' g (Offer c) h = let o = g.opened c.member in omega (arith, h)
  said_on w w' g (Promise p) h = promise_on w w' g p h
  said_on w w' g (Propose b) h = (
    record { tally = (h.0).tally; kept = (h.0).kept; majority = (h.0).majority; gathered = gathered_on w w' g _ _ _ (h.0).gathered; keeps = (h.0).keeps },
    let o = g.opened b.claim.member in omega (arith, h.1),
    h.2,
  )
  said_on w w' g (Vote m c) h = (h.0, g.votes _ h.1)
  said_on w w' g (Nay m c p) h = tt
  said_on w w' g (Agreed v) h = done_on w w' g v h
  said_on w w' g Ask h = tt

  -- the last vote stays true, if promises only grow
  voted_on : (xs ys : List (Note V)) → ((b : Ballot V) → Has xs (Voted b) → Has ys (Voted b))
      → (r : Option (Ballot V)) (p q : Option Claim) → ((d : Claim) → Holds p d → Holds q d) → IsVoted xs r p
      → IsVoted ys r q
  voted_on xs ys more None p q up h = tt
  voted_on xs ys more (Some b) p q up h = (more b h.0, up _ h.1)

  -- an open claim stays as it is, if no new proposal is for it
  pub open_on : (w w' : World V) → Grows V w w' → (i n n' : ℕ) → n ≤ n'
      → ((c : Claim) → c.member ≡ i → IsFresh w.sent c → IsFresh w'.sent c) → (o : Stage V)
      → IsOpen V enough w i n o → IsOpen V enough w' i n' o
  open_on w w' g i n n' le fresh Closed h = tt
  open_on w w' g i n n' le fresh (Gathering c S k) h = (((h.0).0, omega (arith, (h.0).1)), fresh c (h.0).0 h.1, gathered_on w w' g c S k h.2)
  open_on w w' g i n n' le fresh (Building c) h =
      (((h.0).0, omega (arith, (h.0).1)), fresh c (h.0).0 h.1, record { tally = (h.2).tally; majority = (h.2).majority; gathered = gathered_on w w' g c _ _ (h.2).gathered })
  open_on w w' g i n n' le fresh (Voting b S) h = (((h.0).0, omega (arith, (h.0).1)), g.sent _ h.1, λ m e. g.sent _ (h.2 m e))

  -- what was sent stays sent
  sent_more : (s : Option (Message V)) (xs : List (Message V)) (x : Message V) → Has xs x → Has (add_sent s xs) x
  sent_more None xs x h = h
  sent_more (Some m) xs x h = inr h

  -- a step only adds
  pub grows : (w : World V) → IsSound V enough Good w → (i : ℕ) (o : Outcome V)
      → (w.members i).opened ≤ o.member.opened → KeepsFacts w (w.members i) o.member (vote_of o.note)
      → Grows V w (after w i o)
  grows w sound i o opened facts = record {
    sent = sent_more o.send w.sent;
    votes = λ x. put_each (λ j log. Has (w.logs j) (Voted x.ballot) → Has log (Voted x.ballot)) w.logs i (add_note o.note (w.logs i)) (noted_more o.note (w.logs i) (Voted x.ballot)) (λ j ne h. h) x.member;
    opened = put_each (λ j y. (w.members j).opened ≤ y.opened) w.members i o.member opened (λ j ne. le_refl _);
    promised = λ j d. put_each (λ j y. Holds (w.members j).promised d → Holds y.promised d) w.members i o.member (promises d (vote_of o.note) facts) (λ j ne h. h) j;
    voted = λ j d. put_each (λ j y. Reaches (w.members j).voted d → Reaches y.voted d) w.members i o.member (votes d (vote_of o.note) facts) (λ j ne h. h) j;
    above = λ x. put_each (λ j log. Has log (Voted x.ballot) → Has (w.logs j) (Voted x.ballot) ⊎ ((d : Claim) → Holds (w.members j).promised d → AtMost d x.ballot.claim)) w.logs i (add_note o.note (w.logs i))
        (λ h. ⊎_elim (λ old. inl old) (λ e. inr (above (vote_of o.note) facts x.ballot e)) (noted_new o.note (w.logs i) x.ballot h))
        (λ j ne h. inl h)
        x.member;
  }
    where
      promises : (d : Claim) (n : Option (Ballot V)) → KeepsFacts w (w.members i) o.member n
          → Holds (w.members i).promised d → Holds o.member.promised d
      promises d None f h = f.0 d h
      promises d (Some b) f h = let P : Option Claim → Type 0 = λ p. Holds p d in subst P (sym f.1) (f.0 d h)

      votes : (d : Claim) (n : Option (Ballot V)) → KeepsFacts w (w.members i) o.member n
          → Reaches (w.members i).voted d → Reaches o.member.voted d
      votes d None f h = let P : Option (Ballot V) → Type 0 = λ r. Reaches r d in subst P (sym f.1) h
      votes d (Some b) f h =
          let P : Option (Ballot V) → Type 0 = λ r. Reaches r d in
          subst P (sym f.2) (f.0 d (reaches_promised (w.logs i) (w.members i).voted (w.members i).promised d (sound.voted i) h))

      above : (n : Option (Ballot V)) → KeepsFacts w (w.members i) o.member n → (b : Ballot V) → n ≡ Some b
          → (d : Claim) → Holds (w.members i).promised d → AtMost d b.claim
      above None f b e = absurd cc
      above (Some a) f b e = let same : a ≡ b = cc in let P : Ballot V → Type 0 = λ b. (d : Claim) → Holds (w.members i).promised d → AtMost d b.claim in subst P same f.0

  -- a step that satisfies `IsStep` keeps the world sound
  pub keeps : (w : World V) → IsSound V enough Good w → (i : ℕ) (o : Outcome V) → IsStep V enough Good w i o
      → IsSound V enough Good (after w i o)
  keeps w sound i o step =
      let g = grows w sound i o step.opened step.facts in
      record {
        one = one o.send (step.says g);
        said = said g o.send (step.says g);
        noted = λ x. put_each (λ j log. Has log (Voted x.ballot) → IsCast V (after w i o) (record { member = j; ballot = x.ballot })) w.logs i (add_note o.note (w.logs i))
            (λ h. ⊎_elim (λ old. cast_on g _ (sound.noted (record { member = i; ballot = x.ballot }) old)) (λ e. noted g (vote_of o.note) step.facts x.ballot e) (noted_new o.note (w.logs i) x.ballot h))
            (λ j ne h. cast_on g _ (sound.noted (record { member = j; ballot = x.ballot }) h))
            x.member;
        voted = voted_each;
        opens = put_each (λ j y. IsOpen V enough (after w i o) j y.opened y.stage) w.members i o.member (step.opens g) (λ j ne. open_on w (after w i o) g j _ _ (le_refl _) (λ c e. fresh j ne o.send (step.says g) c e) _ (sound.opens j));
        held = put_each (λ j y. IfSome y.held (IsDone enough (after w i o))) w.members i o.member (held_on w (after w i o) g o.member.held step.held) (λ j ne. held_on w (after w i o) g (w.members j).held (sound.held j));
      }
    where
      one : (s : Option (Message V)) → IsNew V enough Good w (after w i o) i s → (c : Claim) (u v : V)
          → Has (add_sent s w.sent) (Propose (ballot c u)) → Has (add_sent s w.sent) (Propose (ballot c v)) → u ≡ v
      one None n c u v h k = sound.one c u v h k
      one (Some m) n c u v h k =
          ⊎_elim
          (λ e. ⊎_elim (λ f. same c u v e f) (λ old. sym (only m n.1 c u e v old)) k)
          (λ old. ⊎_elim (λ f. only m n.1 c v f u old) (λ older. sound.one c u v old older) k)
          h
        where
          same : (c : Claim) (u v : V) → m ≡ Propose (ballot c u) → m ≡ Propose (ballot c v) → u ≡ v
          same c u v e f = let both : ballot c u ≡ ballot c v = cc in ap (λ b. b.value) both

          only : (m : Message V) → IsOnly w i m → (c : Claim) (u : V) → m ≡ Propose (ballot c u) → (v : V)
              → Has w.sent (Propose (ballot c v)) → v ≡ u
          only m h c u e v k = let P : Message V → Type 0 = IsOnly w i in let o = subst P e h in o.1 v k

      said : Grows V w (after w i o) → (s : Option (Message V)) → IsNew V enough Good w (after w i o) i s
          → (x : Message V) → Has (add_sent s w.sent) x → IsSaid V enough Good (after w i o) x
      said g None n x h = said_on w (after w i o) g x (sound.said x h)
      said g (Some m) n x h = ⊎_elim (λ e. let P : Message V → Type 0 = IsSaid V enough Good (after w i o) in subst P e n.0) (λ old. said_on w (after w i o) g x (sound.said x old)) h

      cast_on : Grows V w (after w i o) → (x : VoteOf V) → IsCast V w x → IsCast V (after w i o) x
      cast_on g x h = record { proposed = g.sent _ h.proposed; last = g.voted _ _ h.last }

      noted : Grows V w (after w i o) → (n : Option (Ballot V)) → KeepsFacts w (w.members i) o.member n
          → (b : Ballot V) → n ≡ Some b → IsCast V (after w i o) (record { member = i; ballot = b })
      noted g None f b e = absurd cc
      noted g (Some a) f b e =
          let same : a ≡ b = cc in
          let P : Ballot V → Type 0 = λ b. IsCast V (after w i o) (record { member = i; ballot = b }) in
          subst P same (record {
            proposed = g.sent _ f.3;
            last = let P : Member V → Type 0 = λ y. Reaches y.voted a.claim in subst P (sym (put_same w.members i o.member)) (let Q : Option (Ballot V) → Type 0 = λ r. Reaches r a.claim in subst Q (sym f.2) (omega arith));
          })

      voted : (n : Option (Ballot V)) → vote_of o.note ≡ n → KeepsFacts w (w.members i) o.member n
          → IsVoted (add_note o.note (w.logs i)) o.member.voted o.member.promised
      voted None e f =
          let P : Option (Ballot V) → Type 0 = λ r. IsVoted (add_note o.note (w.logs i)) r o.member.promised in
          subst P (sym f.1) (voted_on (w.logs i) (add_note o.note (w.logs i)) (λ b h. noted_more o.note (w.logs i) (Voted b) h) (w.members i).voted (w.members i).promised o.member.promised f.0 (sound.voted i))
      voted (Some b) e f =
          let P : Option (Ballot V) → Option Claim → Type 0 = λ r p. IsVoted (add_note o.note (w.logs i)) r p in
          subst₂ P (sym f.2) (sym f.1) (noted_here o.note (w.logs i) b e, omega arith)

      voted_each : (j : ℕ)
          → IsVoted (put w.logs i (add_note o.note (w.logs i)) j) (put w.members i o.member j).voted (put w.members i o.member j).promised
      voted_each j =
          elim (cases_Bool (j == i)) [
            | inl t1 ↦ rw t1 (voted (vote_of o.note) refl step.facts)
            | inr t0 ↦ rw t0 (sound.voted j)
          ]

      fresh : (j : ℕ) → (j ≡ i → ⊥) → (s : Option (Message V)) → IsNew V enough Good w (after w i o) i s → (c : Claim)
          → c.member ≡ j → IsFresh w.sent c → IsFresh (add_sent s w.sent) c
      fresh j ne None n c e f = f
      fresh j ne (Some m) n c e f = λ v h. ⊎_elim (λ k. other m n.1 v k) (λ old. f v old) h
        where
          other : (m : Message V) → IsOnly w i m → (v : V) → m ≡ Propose (ballot c v) → ⊥
          other m h v k = let P : Message V → Type 0 = IsOnly w i in let o = subst P k h in ne (sym e ∙ o.0)
