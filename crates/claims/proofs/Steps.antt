-- Each event is a step that preserves soundness of a world.
use Rattle.std.proofs.Common.{◌≡◌, ℕ, zero, suc, max, ◌≤◌, Bool, true, false, not, ◌&&◌, List, [], ◌∷◌, Option, Some, None, refl, inl, inr, ⊎_elim, arith, eqb-true, subst, subst₂, sym, ap, le_refl, slice_get, option_map, IfSome}
use Rattle.std.proofs.lemmas.Bool.{cond_both, and_parts, or_cases, not-true, false≢true}
use Rattle.claims.specs.Claims.{Claim, Below, AtMost, claim_below, claim_same, is_above, is_below, is_promised}
use Rattle.claims.specs.Quorums.{Members, Quorums, AreQuorums, nobody, with_member}
use Rattle.claims.specs.Votes.{Ballot, PromiseOf, VoteOf, Has, UpTo, IsReported, Keeps, IsKept, IsGathered, ballot, is_voted, kept_report}
use Rattle.claims.specs.Messages.{Message, Offer, Promise, Propose, Vote, Nay, Agreed, Ask}
use Rattle.claims.specs.Member.{vote_of, Note, Promised, Voted, Stage, Closed, Gathering, Building, Voting, Member}
use Rattle.claims.specs.Step.{notes_and_says, Outcome, Input, Start, Built, Failed, Nudge, Deliver, Inquire, still, says, on_start, on_built, on_failed, on_nudge, on_offer, on_propose, on_quorum, on_promise, on_vote, on_agreed, on_ask, on_inquire, on_message, answer}
use Rattle.claims.specs.World.{WasVoted, WasPromised, World, Event, Take, Stop, StopIn, Restart, after, down, cut, when, after_any, after_event, start, run}
use Rattle.claims.specs.Agreed.{Builds, IsBuilt, IsBuildingNow, voters}
use Rattle.claims.proofs.Order.{below_true, below_false, claim_same_true, claim_same_false, cases_at_most}
use Rattle.claims.proofs.Sound.{IsDone, Holds, IsSaid, IsVoted, IsOwn, IsFresh, IsOpen, IsSound, Grows, KeepsFacts, IsOnly, IsStep}
use Rattle.claims.proofs.Kept.{voted_before, voted_here, sent_vote, done_on, put_same, gathered_on, said_on, open_on, keeps}

-- what is above the promise is above everything that it bounds
above_all : (p : Option Claim) (c d : Claim) → is_above c p ≡ true → Holds p d → Below d c
above_all None c d e h = absurd h
above_all (Some p) c d e h = let l = below_true p c e in omega arith

-- what is not below the promise is at or above everything that it bounds
not_above : (p : Option Claim) (c d : Claim) → is_below c p ≡ false → Holds p d → AtMost d c
not_above None c d e h = absurd h
not_above (Some p) c d e h = let l = below_false c p e in omega arith

-- if the tests pass, this is promised, or voted for
promised_is : (p : Option Claim) (c : Claim) → is_promised c p ≡ true → p ≡ Some c
promised_is None c e = absurd (false≢true e)
promised_is (Some p) c e = ap (λ x. Some x) (sym (claim_same_true c p e))

voted_is : {V : Type 0} (r : Option (Ballot V)) (c : Claim) → is_voted c r ≡ true → (v : V) × (r ≡ Some (ballot c v))
voted_is None c e = absurd (false≢true e)
voted_is (Some b) c e = (b.value, let P : Claim → Type 0 = λ d. Some b ≡ Some (ballot d b.value) in subst P (sym (claim_same_true c b.claim e)) refl)

-- the last vote, if there is one
last_vote : {V : Type 0} (log : List (Note V)) (r : Option (Ballot V)) (p : Option Claim) (b : Ballot V)
    → IsVoted log r p → r ≡ Some b → Has log (Voted b) × Holds p b.claim
last_vote {V} log r p b v e = let P : Option (Ballot V) → Type 0 = λ r. IsVoted log r p in subst P e v

-- the kept report is at or above both
up_right : {V : Type 0} (k r : Option (Ballot V)) → UpTo r (kept_report k r)
up_right k None = tt
up_right None (Some b) = omega arith
up_right (Some a) (Some b) = cond_both (claim_below a.claim b.claim) (Some b) (Some a) (λ k. UpTo (Some b) k) (λ e. omega arith) (λ e. below_false a.claim b.claim e)

up_left : {V : Type 0} (s k r : Option (Ballot V)) → UpTo s k → UpTo s (kept_report k r)
up_left None k r h = tt
up_left (Some c) k None h = h
up_left (Some c) None (Some b) h = absurd h
up_left (Some c) (Some a) (Some b) h = cond_both (claim_below a.claim b.claim) (Some b) (Some a) (λ k. UpTo (Some c) k) (λ e. let l = below_true a.claim b.claim e in omega arith) (λ e. h)

-- some member reported the kept vote
kept_by : {V : Type 0} (P : PromiseOf V → Type 0) (c : Claim) (m : ℕ) (k r : Option (Ballot V)) → IsKept P c k
    → P (record { member = m; claim = c; report = r }) → IsKept P c (kept_report k r)
kept_by P c m k None h p = h
kept_by P c m None (Some b) h p = (m, p)
kept_by P c m (Some a) (Some b) h p = cond_both (claim_below a.claim b.claim) (Some b) (Some a) (IsKept P c) (λ e. (m, p)) (λ e. h)

-- one more promise is gathered
joins : {V : Type 0} (P : PromiseOf V → Type 0) (c : Claim) (S : Members) (k : Option (Ballot V)) (m : ℕ) (r : Option (Ballot V))
    → IsGathered V P c S k → P (record { member = m; claim = c; report = r })
    → IsGathered V P c (with_member S m) (kept_report k r)
joins {V} P c S k m r g p = record {
  promised = λ j e. ⊎_elim
      (λ f. (r, let Q : ℕ → Type 0 = λ j. P (record { member = j; claim = c; report = r }) in subst Q (sym (eqb-true j m f)) p, up_right k r))
      (λ f. let o = g.promised j f in (o.0, o.1, up_left o.0 k r o.2))
      (or_cases _ _ e);
  reported = kept_by P c m k r g.reported p;
}

-- a message that is not a proposal leaves a claim without a proposal
fresh_quiet : {V : Type 0} (sent : List (Message V)) (m : Message V) → ((b : Ballot V) → m ≡ Propose b → ⊥)
    → (c : Claim) → IsFresh sent c → IsFresh (m ∷ sent) c
fresh_quiet sent m other c f v h = ⊎_elim (λ e. other _ e) (λ old. f v old) h

-- an element read from a list is in the list
get_has : {X : Type 0} (xs : List X) (k : ℕ) → IfSome (slice_get xs k) (Has xs)
get_has [] k = tt
get_has (x ∷ xs) zero = inl refl
get_has {X = X} (x ∷ xs) (suc k) = weaker (slice_get xs k) (get_has xs k)
  where
    weaker : (o : Option X) → IfSome o (Has xs) → IfSome o (Has (x ∷ xs))
    weaker None h = tt
    weaker (Some y) h = inr h

module _ (V : Type 0) (enough : Quorums) (quorums : AreQuorums enough) (Good : V → Type 0) (w : World V) (sound : IsSound V enough Good w) (i : ℕ) where
  -- the facts stay the same, and nothing is said
  silent : (up : Bool) (stage : Stage V)
      → (Grows V w (after w i (still (record (w.members i) { up = up; stage = stage }))) → IsOpen V enough (after w i (still (record (w.members i) { up = up; stage = stage }))) i (w.members i).opened stage)
      → IsStep V enough Good w i (still (record (w.members i) { up = up; stage = stage }))
  silent up stage is_open = record { opened = le_refl _; facts = (λ d h. h, refl); says = λ g. tt; opens = is_open; held = sound.held i }

  -- nothing happens
  stays : IsStep V enough Good w i (still (w.members i))
  stays = silent (w.members i).up (w.members i).stage (λ g. open_on V enough quorums Good w (after w i (still (w.members i))) g i _ _ (le_refl _) (λ c e f. f) (w.members i).stage (sound.opens i))

  -- more may be promised, no vote is noted, and what is said is not a proposal
  quiet : (p : Option Claim) (n : Option (Note V)) (m : Message V) → vote_of n ≡ None
      → ((d : Claim) → Holds (w.members i).promised d → Holds p d) → ((b : Ballot V) → m ≡ Propose b → ⊥)
      → IsOnly w i m
      → (Grows V w (after w i (record { member = record (w.members i) { promised = p }; note = n; send = Some m })) → IsSaid V enough Good (after w i (record { member = record (w.members i) { promised = p }; note = n; send = Some m })) m)
      → IsStep V enough Good w i (record { member = record (w.members i) { promised = p }; note = n; send = Some m })
  quiet p n m none up other only said = record {
    opened = le_refl _;
    facts = let P : Option (Ballot V) → Type 0 = KeepsFacts w (w.members i) (record (w.members i) { promised = p }) in subst P (sym none) (up, refl);
    says = λ g. (said g, only);
    opens = λ g. open_on V enough quorums Good w _ g i _ _ (le_refl _) (λ c e f. fresh_quiet w.sent m other c f) (w.members i).stage (sound.opens i);
    held = sound.held i;
  }

  -- every value that was proposed, voted for or reported is good
  good : (b : Ballot V) → Has w.sent (Propose b) → Good b.value
  good b h = (sound.said _ h).2

  -- the open claim gets its first proposal
  proposes : (c : Claim) (v : V) (S : Members) (k : Option (Ballot V)) → IsOwn i (w.members i).opened c
      → IsFresh w.sent c → enough S ≡ true → IsGathered V (WasPromised w) c S k → Keeps k v → Good v
      → IsStep V enough Good w i (says (record (w.members i) { stage = Voting (ballot c v) nobody }) (Propose (ballot c v)))
  proposes c v S k own fresh m gat keep fine = record {
    opened = le_refl _;
    facts = (λ d h. h, refl);
    says = λ g. ((record { tally = S; kept = k; majority = m; gathered = gathered_on V enough quorums Good w _ g c S k gat; keeps = keep }, opened_by _ g, fine), (own.0, λ u h. absurd (fresh u h)));
    opens = λ g. (own, inl refl, λ j e. absurd (false≢true e));
    held = sound.held i;
  }
    where
      opened_by : (w' : World V) → Grows V w w' → c.round ≤ (w'.members c.member).opened
      opened_by w' g = let P : ℕ → Type 0 = λ j. c.round ≤ (w'.members j).opened in subst P (sym own.0) (let o = g.opened i in omega (arith, own.1))

  -- each input is such a step, or is refused
  on_start_ok : (held : Option V) (above : ℕ)
      → IfSome (on_start i (w.members i) held above) (IsStep V enough Good w i)
  on_start_ok (Some v) above = tt
  on_start_ok None above = record {
    opened = omega arith;
    facts = (λ d h. h, refl);
    says = λ g. (let P : Member V → Type 0 = λ y. suc (max above (w.members i).opened) ≤ y.opened in subst P (sym (put_same w.members i _)) (le_refl _), tt);
    opens = λ g. (
      (refl, le_refl _),
      (λ v h. ⊎_elim (λ e. absurd cc) (λ old. let o = (sound.said (Propose (ballot (record { round = suc (max above (w.members i).opened); member = i }) v)) old).1 in omega arith) h),
      record { promised = λ m e. absurd (false≢true e); reported = tt },
    );
    held = sound.held i;
  }

  on_inquire_ok : (held : Option V) → IfSome (on_inquire (w.members i) held) (IsStep V enough Good w i)
  on_inquire_ok (Some v) = tt
  on_inquire_ok None = quiet (w.members i).promised None Ask refl (λ d h. h) (λ b e. cc) tt (λ g. tt)

  on_built_ok : (stage : Stage V) (v : V) → (IsBuildingNow stage → Good v)
      → IsOpen V enough w i (w.members i).opened stage
      → IfSome (on_built (w.members i) stage v) (IsStep V enough Good w i)
  on_built_ok Closed v fine h = tt
  on_built_ok (Gathering c S k) v fine h = tt
  on_built_ok (Building c) v fine h = proposes c v (h.2).tally None h.0 h.1 (h.2).majority (h.2).gathered tt (fine tt)
  on_built_ok (Voting b S) v fine h = tt

  on_failed_ok : (stage : Stage V) → IfSome (on_failed (w.members i) stage) (IsStep V enough Good w i)
  on_failed_ok Closed = tt
  on_failed_ok (Gathering c S k) = tt
  on_failed_ok (Building c) = silent (w.members i).up Closed (λ g. tt)
  on_failed_ok (Voting b S) = tt

  on_nudge_ok : (stage : Stage V) → (w.members i).stage ≡ stage → IsOpen V enough w i (w.members i).opened stage
      → IfSome (on_nudge (w.members i) stage) (IsStep V enough Good w i)
  on_nudge_ok Closed is h = tt
  on_nudge_ok (Gathering c S k) is h = quiet (w.members i).promised None (Offer c) refl (λ d h. h) (λ b e. cc) tt (λ g. opened_by _ g)
    where
      opened_by : (w' : World V) → Grows V w w' → c.round ≤ (w'.members c.member).opened
      opened_by w' g = let P : ℕ → Type 0 = λ j. c.round ≤ (w'.members j).opened in subst P (sym (h.0).0) (let o = g.opened i in omega (arith, (h.0).1))
  on_nudge_ok (Building c) is h = stays
  on_nudge_ok (Voting b S) is h = record {
    opened = le_refl _;
    facts = (λ d h. h, refl);
    says = λ g. (said_on V enough quorums Good w _ g (Propose b) (sound.said _ h.1), ((h.0).0, λ v k. sound.one b.claim v b.value k h.1));
    opens = λ g. let P : Stage V → Type 0 = IsOpen V enough (after w i (says (w.members i) (Propose b))) i (w.members i).opened in subst P (sym is) (h.0, inl refl, λ m e. inr (h.2 m e));
    held = sound.held i;
  }

  -- a promise reports the last vote, which is below the promised claim
  promises : (c : Claim) (p : Option Claim) (n : Option (Note V)) → vote_of n ≡ None
      → ((d : Claim) → Holds (w.members i).promised d → Holds p d) → Holds p c
      → ((b : Ballot V) → (w.members i).voted ≡ Some b → Below b.claim c)
      → IsStep V enough Good w i (record { member = record (w.members i) { promised = p }; note = n; send = Some (Promise (record { member = i; claim = c; report = (w.members i).voted })) })
  promises c p n none up holds low =
      let said : Message V = Promise (record { member = i; claim = c; report = (w.members i).voted }) in
      let o : Outcome V = record { member = record (w.members i) { promised = p }; note = n; send = Some said } in
      quiet p n said none up (λ b e. cc) tt (λ g. record {
        holds = let P : Member V → Type 0 = λ y. Holds y.promised c in subst P (sym (put_same w.members i (record (w.members i) { promised = p }))) holds;
        bounds = λ b h l. (sound.noted (record { member = i; ballot = b }) (voted_before w i o b none h)).last;
        reports = reported (after w i o) g.votes (w.members i).voted (sound.voted i) low;
      })
    where
      reported : (w' : World V) → ((x : VoteOf V) → WasVoted w x → WasVoted w' x) → (r : Option (Ballot V))
          → IsVoted (w.logs i) r (w.members i).promised → ((b : Ballot V) → r ≡ Some b → Below b.claim c)
          → IsReported (WasVoted w') i c r
      reported w' lasts None v low = tt
      reported w' lasts (Some b) v low = (low b refl, lasts (record { member = i; ballot = b }) v.0)

  -- each message leads to such a step
  on_offer_ok : (c : Claim) → IsStep V enough Good w i (on_offer i (w.members i) c)
  on_offer_ok c =
      cond_both (is_above c (w.members i).promised) _ _ (IsStep V enough Good w i)
      (λ e. promises c (Some c) (Some (Promised c)) refl (λ d h. let l = above_all _ c d e h in omega arith) (omega arith)
      (λ b v. above_all _ c b.claim e (last_vote (w.logs i) _ _ b (sound.voted i) v).1))
      (λ e. cond_both (is_promised c (w.members i).promised && not (is_voted c (w.members i).voted)) _ _ (IsStep V enough Good w i)
      (λ f. let both = and_parts _ _ f in again c (promised_is _ c both.0) (not-true _ both.1))
      (λ f. quiet (w.members i).promised None (Nay i c (w.members i).promised) refl (λ d h. h) (λ b e. cc) tt (λ g. tt)))
    where
      again : (c : Claim) → (w.members i).promised ≡ Some c → is_voted c (w.members i).voted ≡ false
          → IsStep V enough Good w i (says (w.members i) (Promise (record { member = i; claim = c; report = (w.members i).voted })))
      again c p v =
          let at : (d : Claim) → Holds (w.members i).promised d → AtMost d c = λ d. let P : Option Claim → Type 0 = λ p. Holds p d → AtMost d c in subst P (sym p) (λ h. h) in
          promises c (w.members i).promised None refl (λ d h. h)
          (let P : Option Claim → Type 0 = λ p. Holds p c in subst P (sym p) (omega arith))
          (λ b is. ⊎_elim (λ lt. lt) (λ same. absurd (claim_same_false c b.claim (let P : Option (Ballot V) → Type 0 = λ r. is_voted c r ≡ false in subst P is v) (sym same)))
          (cases_at_most b.claim c (at b.claim (last_vote (w.logs i) _ _ b (sound.voted i) is).1)))

  on_propose_ok : (b : Ballot V) → Has w.sent (Propose b) → IsStep V enough Good w i (on_propose i (w.members i) b)
  on_propose_ok b has =
      cond_both (not (is_below b.claim (w.members i).promised) && not (is_voted b.claim (w.members i).voted)) _ _ (IsStep V enough Good w i)
      (λ e. let both = and_parts _ _ e in
      let voted : Outcome V = notes_and_says (record (w.members i) { promised = Some b.claim; voted = Some b }) (Voted b) (Vote i b.claim) in
      record {
        opened = le_refl _;
        facts = (λ d h. not_above _ b.claim d (not-true _ both.0) h, refl, refl, has);
        says = λ g. ((b.value, voted_here w i voted b refl), tt);
        opens = λ g. open_on V enough quorums Good w _ g i _ _ (le_refl _) (λ c e f. fresh_quiet w.sent (Vote i b.claim) (λ b e. cc) c f) (w.members i).stage (sound.opens i);
        held = sound.held i;
      })
      (λ e. cond_both (is_voted b.claim (w.members i).voted && is_promised b.claim (w.members i).promised) _ _ (IsStep V enough Good w i)
      (λ f. let v = voted_is _ b.claim (and_parts _ _ f).0 in
      quiet (w.members i).promised None (Vote i b.claim) refl (λ d h. h) (λ b e. cc) tt (λ g. (v.0, g.votes (record { member = i; ballot = ballot b.claim v.0 }) (last_vote (w.logs i) _ _ _ (sound.voted i) v.1).0)))
      (λ f. quiet (w.members i).promised None (Nay i b.claim (w.members i).promised) refl (λ d h. h) (λ b e. cc) tt (λ g. tt)))

  on_quorum_ok : (c : Claim) (S : Members) (k : Option (Ballot V)) → IsOwn i (w.members i).opened c → IsFresh w.sent c
      → enough S ≡ true → IsGathered V (WasPromised w) c S k
      → IsStep V enough Good w i (on_quorum (w.members i) c k)
  on_quorum_ok c S None own fresh m gat = silent (w.members i).up (Building c) (λ g. (own, fresh, record { tally = S; majority = m; gathered = gathered_on V enough quorums Good w _ g c S None gat }))
  on_quorum_ok c S (Some b) own fresh m gat =
      let r = (sound.said _ (gat.reported).1).reports in
      proposes c b.value S (Some b) own fresh m gat refl (good b (sound.noted _ r.1).proposed)

  on_promise_ok : (p : PromiseOf V) → Has w.sent (Promise p) → (stage : Stage V)
      → IsOpen V enough w i (w.members i).opened stage
      → IsStep V enough Good w i (on_promise enough (w.members i) stage p)
  on_promise_ok p has Closed h = stays
  on_promise_ok p has (Gathering c S k) h =
      cond_both (claim_same p.claim c) _ _ (IsStep V enough Good w i)
      (λ e. let more : IsGathered V (WasPromised w) c (with_member S p.member) (kept_report k p.report) =
      joins (WasPromised w) c S k p.member p.report h.2 (let P : Claim → Type 0 = λ c. Has w.sent (Promise (record { member = p.member; claim = c; report = p.report })) in subst P (claim_same_true p.claim c e) has) in
      cond_both (enough (with_member S p.member)) _ _ (IsStep V enough Good w i)
      (λ m. on_quorum_ok c (with_member S p.member) (kept_report k p.report) h.0 h.1 m more)
      (λ m. silent (w.members i).up (Gathering c (with_member S p.member) (kept_report k p.report)) (λ g. (h.0, h.1, gathered_on V enough quorums Good w _ g c _ _ more))))
      (λ e. stays)
  on_promise_ok p has (Building c) h = stays
  on_promise_ok p has (Voting b S) h = stays

  on_vote_ok : (m : ℕ) (c : Claim) → Has w.sent (Vote m c) → (stage : Stage V)
      → IsOpen V enough w i (w.members i).opened stage
      → IsStep V enough Good w i (on_vote enough (w.members i) stage m c)
  on_vote_ok m c has Closed h = stays
  on_vote_ok m c has (Gathering d S k) h = stays
  on_vote_ok m c has (Building d) h = stays
  on_vote_ok m c has (Voting b S) h =
      cond_both (claim_same c b.claim) _ _ (IsStep V enough Good w i)
      (λ e. let more : (j : ℕ) → with_member S m j ≡ true → Has w.sent (Vote j b.claim) = λ j f.
      ⊎_elim (λ same. let P : ℕ → Claim → Type 0 = λ j c. Has w.sent (Vote j c) in subst₂ P (sym (eqb-true j m same)) (claim_same_true c b.claim e) has) (λ old. h.2 j old) (or_cases _ _ f) in
      cond_both (enough (with_member S m)) _ _ (IsStep V enough Good w i)
      (λ f. record {
        opened = le_refl _;
        facts = (λ d k. k, refl);
        says = λ g. (done_on V enough quorums Good w _ g b.value (done more f), tt);
        opens = λ g. tt;
        held = done more f;
      })
      (λ f. silent (w.members i).up (Voting b (with_member S m)) (λ g. (h.0, g.sent _ h.1, λ j k. g.sent _ (more j k)))))
      (λ e. stays)
    where
      done : ((j : ℕ) → with_member S m j ≡ true → Has w.sent (Vote j b.claim)) → enough (with_member S m) ≡ true
          → IsDone enough w b.value
      done more f = (b, (quorums.grow (with_member S m) (voters w.sent b.claim) (λ j k. sent_vote w.sent b.claim j (more j k)) f, h.1), refl)

  on_agreed_ok : (held : Option V) (v : V) → IsDone enough w v
      → IsStep V enough Good w i (on_agreed (w.members i) held v)
  on_agreed_ok None v d = record { opened = le_refl _; facts = (λ d h. h, refl); says = λ g. tt; opens = λ g. tt; held = d }
  on_agreed_ok (Some u) v d = stays

  on_ask_ok : (held : Option V) → IfSome held (IsDone enough w) → IsStep V enough Good w i (on_ask (w.members i) held)
  on_ask_ok None d = stays
  on_ask_ok (Some v) d = quiet (w.members i).promised None (Agreed v) refl (λ d h. h) (λ b e. cc) tt (λ g. done_on V enough quorums Good w _ g v d)

  on_message_ok : (m : Message V) → Has w.sent m → IsStep V enough Good w i (on_message enough i (w.members i) m)
  on_message_ok (Offer c) has = on_offer_ok c
  on_message_ok (Promise p) has = on_promise_ok p has (w.members i).stage (sound.opens i)
  on_message_ok (Propose b) has = on_propose_ok b has
  on_message_ok (Vote m c) has = on_vote_ok m c has (w.members i).stage (sound.opens i)
  on_message_ok (Nay m c p) has = stays
  on_message_ok (Agreed v) has = on_agreed_ok (w.members i).held v (sound.said _ has)
  on_message_ok Ask has = on_ask_ok (w.members i).held (sound.held i)

  deliver_ok : (m : Option (Message V)) → IfSome m (Has w.sent)
      → IfSome (option_map (on_message enough i (w.members i)) m) (IsStep V enough Good w i)
  deliver_ok None has = tt
  deliver_ok (Some m) has = on_message_ok m has

  -- each input leads to such a step
  pub answer_ok : (input : Input V) → (w.members i).up ≡ true → ((v : V) → Builds w (Take i input) v → Good v)
      → IfSome (answer enough i (w.members i) w.sent input) (IsStep V enough Good w i)
  answer_ok (Start above) up fine = on_start_ok (w.members i).held above
  answer_ok (Built v) up fine = on_built_ok (w.members i).stage v (λ b. fine v (refl, up, b)) (sound.opens i)
  answer_ok Failed up fine = on_failed_ok (w.members i).stage
  answer_ok Nudge up fine = on_nudge_ok (w.members i).stage refl (sound.opens i)
  answer_ok (Deliver k) up fine = deliver_ok (slice_get w.sent k) (get_has w.sent k)
  answer_ok Inquire up fine = on_inquire_ok (w.members i).held

  -- a stop inside a step keeps only its note, so what it would have proposed doesn't matter
  cut_ok : (o : Option (Outcome V)) → IfSome o (IsStep V enough (λ v. Unit {0}) w i)
      → IfSome (option_map cut o) (IsStep V enough Good w i)
  cut_ok None h = tt
  cut_ok (Some o) h = record { opened = h.opened; facts = h.facts; says = λ g. tt; opens = λ g. tt; held = h.held }

  -- nothing must be shown for a refused event
  when_ok : (b : Bool) (o : Option (Outcome V)) → (b ≡ true → IfSome o (IsStep V enough Good w i))
      → IfSome (when b o) (IsStep V enough Good w i)
  when_ok true o h = h refl
  when_ok false o h = tt

  -- a step, or none, keeps the world sound
  after_ok : (o : Option (Outcome V)) → IfSome o (IsStep V enough Good w i) → IsSound V enough Good (after_any w i o)
  after_ok None h = sound
  after_ok (Some o) h = keeps V enough quorums Good w sound i o h

module _ (V : Type 0) (enough : Quorums) (quorums : AreQuorums enough) (Good : V → Type 0) where
  -- soundness for one property implies soundness for a weaker one
  pub weaken : (Fine : V → Type 0) → ((v : V) → Good v → Fine v) → (w : World V) → IsSound V enough Good w
      → IsSound V enough Fine w
  weaken Fine up w s = record { one = s.one; said = λ x h. any x (s.said x h); noted = s.noted; voted = s.voted; opens = s.opens; held = s.held }
    where
      any : (x : Message V) → IsSaid V enough Good w x → IsSaid V enough Fine w x
      any (Offer c) h = h
      any (Promise p) h = h
      any (Propose b) h = (h.0, h.1, up b.value h.2)
      any (Vote m c) h = h
      any (Nay m c p) h = tt
      any (Agreed v) h = h
      any Ask h = tt

  -- each event keeps a world sound
  pub after_event_ok : (w : World V) → IsSound V enough Good w → (e : Event V) → ((v : V) → Builds w e v → Good v)
      → IsSound V enough Good (after_event enough w e)
  after_event_ok w sound (Take i input) fine =
      after_ok V enough quorums Good w sound i _ (when_ok V enough quorums Good w sound i (w.members i).up _ (λ up. answer_ok V enough quorums Good w sound i input up fine))
  after_event_ok w sound (Stop i) fine =
      after_ok V enough quorums Good w sound i _ (when_ok V enough quorums Good w sound i (w.members i).up (Some (still (down (w.members i)))) (λ up. silent V enough quorums Good w sound i false Closed (λ g. tt)))
  after_event_ok w sound (StopIn i input) fine =
      after_ok V enough quorums Good w sound i _ (when_ok V enough quorums Good w sound i (w.members i).up _ (λ up. cut_ok V enough quorums Good w sound i _ (answer_ok V enough quorums (λ v. Unit {0}) w (weaken (λ v. Unit {0}) (λ v h. tt) w sound) i input up (λ v b. tt))))
  after_event_ok w sound (Restart i) fine =
      after_ok V enough quorums Good w sound i _ (when_ok V enough quorums Good w sound i (not (w.members i).up) (Some (still (record (w.members i) { up = true; stage = Closed }))) (λ down. silent V enough quorums Good w sound i true Closed (λ g. tt)))

  -- the initial world is sound
  pub start_ok : IsSound V enough Good start
  start_ok = record { one = λ c u v h k. absurd h; said = λ x h. absurd h; noted = λ x h. absurd h; voted = λ i. tt; opens = λ i. tt; held = λ i. tt }

  -- each list of events keeps a world sound, if what it builds is good
  pub run_ok : (w : World V) → IsSound V enough Good w → (events : List (Event V))
      → ((v : V) → IsBuilt enough w events v → Good v) → IsSound V enough Good (run enough events w)
  run_ok w sound [] fine = sound
  run_ok w sound (e ∷ es) fine = run_ok (after_event enough w e) (after_event_ok w sound e (λ v b. fine v (inl b))) es (λ v b. fine v (inr b))
