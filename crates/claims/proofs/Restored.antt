-- A member's facts are what its notes restore.
use Rattle.std.proofs.Common.{◌++◌, eqb-true, ◌≡◌, ◌==◌, ℕ, suc, max, Bool, true, false, not, ◌&&◌, List, [], ◌∷◌, Option, Some, None, refl, arith, subst, sym, ap, ◌∙◌, slice_get, option_map, IfSome, inl, inr, ⊎_elim}
use Rattle.std.proofs.lemmas.Bool.{cond_both, cond-true, cond-false, cases_Bool, and_parts, not-true, false≢true}
use Rattle.claims.specs.Claims.{Claim, claim_below, claim_same, is_above, is_below, is_promised}
use Rattle.claims.specs.Quorums.{Quorums, with_member}
use Rattle.claims.specs.Votes.{Ballot, PromiseOf, is_voted, kept_report}
use Rattle.claims.specs.Messages.{Message, Offer, Promise, Propose, Vote, Nay, Agreed, Ask}
use Rattle.claims.specs.Member.{Opened, Promised, Voted, Held, noted_any, first, Facts, Note, Stage, Closed, Gathering, Building, Voting, Member, facts_of, greater, restored}
use Rattle.claims.specs.Step.{Outcome, Input, Start, Built, Failed, Nudge, Deliver, Inquire, on_start, on_built, on_failed, on_nudge, on_inquire, on_offer, on_propose, on_quorum, on_promise, on_vote, on_agreed, on_ask, on_message, answer}
use Rattle.claims.specs.Noted.{IsClosedWhereHeld, IsNoted}
use Rattle.claims.specs.World.{member_of, outcome, World, Event, Take, Stop, StopIn, Restart, add_note, after_any, after_event, cut, run, start, when}
use Rattle.claims.proofs.Agreed.{run_append}
use Rattle.claims.proofs.Order.{below_false, below_test, cases_at_most}

-- a closed claim is always allowed
held_closed : {V : Type 0} (h : Option V) → IsClosedWhereHeld h Closed
held_closed None = tt
held_closed (Some v) = refl

-- an open claim's value is not held
not_held : {V : Type 0} (h : Option V) (s : Stage V) → IsClosedWhereHeld h s → (s ≡ Closed → ⊥) → h ≡ None
not_held None s closed opened = refl
not_held (Some v) s closed opened = absurd (opened closed)

-- a member that doesn't hold the value may have any claim open
none_closed : {V : Type 0} (h : Option V) (s : Stage V) → h ≡ None → IsClosedWhereHeld h s
none_closed {V} h s e = let P : Option V → Type 0 = λ h. IsClosedWhereHeld h s in subst P (sym e) tt

-- the first value held is the only one
first_none : {V : Type 0} (h : Option V) (v : V) → h ≡ None → Some v ≡ first h v
first_none {V} h v e = let P : Option V → Type 0 = λ h. Some v ≡ first h v in subst P (sym e) refl

-- if the claim is not below the promised one, it is the greater of both
pub greater_not_below : (p : Option Claim) (c : Claim) → is_below c p ≡ false → Some c ≡ greater p c
greater_not_below None c e = refl
greater_not_below (Some p) c e =
    elim (cases_Bool (claim_below p c)) [
      | inl t1 ↦ sym (cond-true (claim_below p c) (Some c) (Some p) t1)
      | inr t0 ↦ ap (λ x. Some x) (⊎_elim (λ lt. absurd (false≢true (sym t0 ∙ below_test p c lt))) (λ same. sym same) (cases_at_most p c (below_false c p e))) ∙ sym (cond-false (claim_below p c) (Some c) (Some p) t0)
    ]

module _ (V : Type 0) (enough : Quorums) (x : Member V) (closed : IsClosedWhereHeld x.held x.stage) where
  -- the facts stay the same
  idle : (up : Bool) (s : Stage V) (m : Option (Message V)) → IsClosedWhereHeld x.held s
      → IsNoted V x (record { member = record x { up = up; stage = s }; note = None; send = m })
  idle up s m h = record { facts = refl; closed = h }

  -- the member stays the same
  same : (m : Option (Message V)) → IsNoted V x (record { member = x; note = None; send = m })
  same m = record { facts = refl; closed = closed }

  -- an open claim continues
  goes_on : (s t : Stage V) (m : Option (Message V)) → x.stage ≡ s → (s ≡ Closed → ⊥)
      → IsNoted V x (record { member = record x { stage = t }; note = None; send = m })
  goes_on s t m e opened = idle x.up t m (none_closed x.held t (not_held x.held x.stage closed (λ is. opened (sym e ∙ is))))

  -- for each input, what changes is noted
  start_noted : (i : ℕ) (h : Option V) (above : ℕ) → x.held ≡ h → IfSome (on_start i x h above) (IsNoted V x)
  start_noted i (Some v) above e = tt
  start_noted i None above e = record {
    facts = let up : suc (max above x.opened) ≡ max x.opened (suc (max above x.opened)) = omega arith in
        ap (λ n. let f : Facts V = record { opened = n; promised = x.promised; voted = x.voted; held = x.held } in f) up;
    closed = none_closed x.held _ e;
  }

  built_noted : (s : Stage V) (v : V) → x.stage ≡ s → IfSome (on_built x s v) (IsNoted V x)
  built_noted Closed v e = tt
  built_noted (Gathering c S k) v e = tt
  built_noted (Building c) v e = goes_on (Building c) _ _ e (λ f. cc)
  built_noted (Voting b S) v e = tt

  failed_noted : (s : Stage V) → IfSome (on_failed x s) (IsNoted V x)
  failed_noted Closed = tt
  failed_noted (Gathering c S k) = tt
  failed_noted (Building c) = idle x.up Closed None (held_closed x.held)
  failed_noted (Voting b S) = tt

  nudge_noted : (s : Stage V) → IfSome (on_nudge x s) (IsNoted V x)
  nudge_noted Closed = tt
  nudge_noted (Gathering c S k) = same _
  nudge_noted (Building c) = same _
  nudge_noted (Voting b S) = same _

  inquire_noted : (h : Option V) → IfSome (on_inquire x h) (IsNoted V x)
  inquire_noted None = same _
  inquire_noted (Some v) = tt

  -- for each message, what changes is noted
  offer_noted : (i : ℕ) (c : Claim) → IsNoted V x (on_offer i x c)
  offer_noted i c =
      cond_both (is_above c x.promised) _ _ (IsNoted V x)
      (λ e. record {
        facts = ap (λ p. let f : Facts V = record { opened = x.opened; promised = p; voted = x.voted; held = x.held } in f) (sym (cond-true (is_above c x.promised) (Some c) x.promised e));
        closed = closed;
      })
      (λ e. cond_both (is_promised c x.promised && not (is_voted c x.voted)) _ _ (IsNoted V x) (λ f. same _) (λ f. same _))

  propose_noted : (i : ℕ) (b : Ballot V) → IsNoted V x (on_propose i x b)
  propose_noted i b =
      cond_both (not (is_below b.claim x.promised) && not (is_voted b.claim x.voted)) _ _ (IsNoted V x)
      (λ e. record {
        facts = ap (λ p. let f : Facts V = record { opened = x.opened; promised = p; voted = Some b; held = x.held } in f) (greater_not_below x.promised b.claim (not-true _ (and_parts _ _ e).0));
        closed = closed;
      })
      (λ e. cond_both (is_voted b.claim x.voted && is_promised b.claim x.promised) _ _ (IsNoted V x) (λ f. same _) (λ f. same _))

  quorum_noted : (s : Stage V) (c : Claim) (k : Option (Ballot V)) → x.stage ≡ s → (s ≡ Closed → ⊥)
      → IsNoted V x (on_quorum x c k)
  quorum_noted s c None e opened = goes_on s _ _ e opened
  quorum_noted s c (Some b) e opened = goes_on s _ _ e opened

  promise_noted : (s : Stage V) (p : PromiseOf V) → x.stage ≡ s → IsNoted V x (on_promise enough x s p)
  promise_noted Closed p e = same _
  promise_noted (Gathering c S k) p e =
      cond_both (claim_same p.claim c) _ _ (IsNoted V x)
      (λ t. cond_both (enough (with_member S p.member)) _ _ (IsNoted V x)
      (λ q. quorum_noted (Gathering c S k) c (kept_report k p.report) e (λ f. cc))
      (λ q. goes_on (Gathering c S k) _ _ e (λ f. cc)))
      (λ t. same _)
  promise_noted (Building c) p e = same _
  promise_noted (Voting b S) p e = same _

  vote_noted : (s : Stage V) (m : ℕ) (c : Claim) → x.stage ≡ s → IsNoted V x (on_vote enough x s m c)
  vote_noted Closed m c e = same _
  vote_noted (Gathering d S k) m c e = same _
  vote_noted (Building d) m c e = same _
  vote_noted (Voting b S) m c e =
      cond_both (claim_same c b.claim) _ _ (IsNoted V x)
      (λ t. cond_both (enough (with_member S m)) _ _ (IsNoted V x)
      (λ q. record {
        facts = ap (λ h. let f : Facts V = record { opened = x.opened; promised = x.promised; voted = x.voted; held = h } in f) (first_none x.held b.value (not_held x.held x.stage closed (λ is. let wrong : Voting b S ≡ Closed = sym e ∙ is in cc)));
        closed = refl;
      })
      (λ q. goes_on (Voting b S) _ _ e (λ f. cc)))
      (λ t. same _)

  agreed_noted : (h : Option V) (v : V) → x.held ≡ h → IsNoted V x (on_agreed x h v)
  agreed_noted None v e = record { facts = ap (λ h. let f : Facts V = record { opened = x.opened; promised = x.promised; voted = x.voted; held = h } in f) (first_none x.held v e); closed = refl }
  agreed_noted (Some u) v e = same _

  ask_noted : (h : Option V) → IsNoted V x (on_ask x h)
  ask_noted None = same _
  ask_noted (Some v) = same _

  pub message_noted : (i : ℕ) (m : Message V) → IsNoted V x (on_message enough i x m)
  message_noted i (Offer c) = offer_noted i c
  message_noted i (Promise p) = promise_noted x.stage p refl
  message_noted i (Propose b) = propose_noted i b
  message_noted i (Vote m c) = vote_noted x.stage m c refl
  message_noted i (Nay m c p) = same _
  message_noted i (Agreed v) = agreed_noted x.held v refl
  message_noted i Ask = ask_noted x.held

  delivery_noted : (i : ℕ) (m : Option (Message V)) → IfSome (option_map (on_message enough i x) m) (IsNoted V x)
  delivery_noted i None = tt
  delivery_noted i (Some m) = message_noted i m

  pub answer_noted : (i : ℕ) (sent : List (Message V)) (input : Input V)
      → IfSome (answer enough i x sent input) (IsNoted V x)
  answer_noted i sent (Start above) = start_noted i x.held above refl
  answer_noted i sent (Built v) = built_noted x.stage v refl
  answer_noted i sent Failed = failed_noted x.stage
  answer_noted i sent Nudge = nudge_noted x.stage
  answer_noted i sent (Deliver k) = delivery_noted i (slice_get sent k)
  answer_noted i sent Inquire = inquire_noted x.held

  -- a stop inside the step leaves its note
  cut_noted : (o : Option (Outcome V)) → IfSome o (IsNoted V x) → IfSome (option_map cut o) (IsNoted V x)
  cut_noted None h = tt
  cut_noted (Some o) h = record { facts = h.facts; closed = held_closed o.member.held }

  -- a refused event notes nothing
  when_noted : (b : Bool) (o : Option (Outcome V)) → IfSome o (IsNoted V x) → IfSome (when b o) (IsNoted V x)
  when_noted true o h = h
  when_noted false o h = tt

-- each member's facts are what its notes restore
pub record IsRestored (V : Type 0) (w : World V) (i : ℕ) : Type 0 where
  pub facts : facts_of (w.members i) ≡ restored (w.logs i)
  pub closed : IsClosedWhereHeld (w.members i).held (w.members i).stage

module _ (V : Type 0) (enough : Quorums) where
  -- the notes with one more restore the facts with one more
  restored_then : (n : Option (Note V)) (log : List (Note V)) → noted_any (restored log) n ≡ restored (add_note n log)
  restored_then None log = refl
  restored_then (Some n) log = refl

  -- a step whose changes are noted keeps all members restored
  after_restored : (w : World V) → ((i : ℕ) → IsRestored V w i) → (i : ℕ) (o : Option (Outcome V))
      → IfSome o (IsNoted V (w.members i)) → (j : ℕ) → IsRestored V (after_any w i o) j
  after_restored w all i None h j = all j
  after_restored w all i (Some o) h j =
      elim (cases_Bool (j == i)) [
        | inl t1 ↦ record {
          facts = rw t1 (h.facts ∙ (ap (λ f. noted_any f o.note) (all i).facts ∙ restored_then o.note (w.logs i)));
          closed = rw t1 h.closed;
        }
        | inr t0 ↦ record { facts = rw t0 (all j).facts; closed = rw t0 (all j).closed }
      ]

  -- each event is such a step
  event_noted : (w : World V) → ((i : ℕ) → IsRestored V w i) → (e : Event V)
      → IfSome (outcome enough w e) (IsNoted V (w.members (member_of e)))
  event_noted w all (Take i input) =
      when_noted V enough (w.members i) (all i).closed (w.members i).up _ (answer_noted V enough (w.members i) (all i).closed i w.sent input)
  event_noted w all (Stop i) =
      when_noted V enough (w.members i) (all i).closed (w.members i).up _ (idle V enough (w.members i) (all i).closed false Closed None (held_closed (w.members i).held))
  event_noted w all (StopIn i input) =
      when_noted V enough (w.members i) (all i).closed (w.members i).up _ (cut_noted V enough (w.members i) (all i).closed _ (answer_noted V enough (w.members i) (all i).closed i w.sent input))
  event_noted w all (Restart i) =
      when_noted V enough (w.members i) (all i).closed (not (w.members i).up) _ (idle V enough (w.members i) (all i).closed true Closed None (held_closed (w.members i).held))

  pub event_restored : (w : World V) → ((i : ℕ) → IsRestored V w i) → (e : Event V) → (j : ℕ)
      → IsRestored V (after_event enough w e) j
  event_restored w all e = after_restored w all (member_of e) _ (event_noted w all e)

  -- all events keep members restored
  pub from_restored : (events : List (Event V)) (w : World V) → ((i : ℕ) → IsRestored V w i) → (i : ℕ)
      → IsRestored V (run enough events w) i
  from_restored [] w all = all
  from_restored (e ∷ es) w all = from_restored es (after_event enough w e) (event_restored w all e)

  -- after all events each member has the facts that its notes restore
  pub run_restored : (events : List (Event V)) (i : ℕ)
      → facts_of ((run enough events start).members i) ≡ restored ((run enough events start).logs i)
  run_restored events i = (from_restored events start (λ i. record { facts = refl; closed = tt }) i).facts

  pub run_closed : (events : List (Event V)) (i : ℕ) (v : V) → ((run enough events start).members i).held ≡ Some v
      → ((run enough events start).members i).stage ≡ Closed
  run_closed events i v e =
      let P : Option V → Type 0 = λ h. IsClosedWhereHeld h ((run enough events start).members i).stage in
      subst P e (from_restored events start (λ i. record { facts = refl; closed = tt }) i).closed

  -- a note keeps what is held
  noted_held : (f : Facts V) (n : Option (Note V)) (v : V) → f.held ≡ Some v → (noted_any f n).held ≡ Some v
  noted_held f None v e = e
  noted_held f (Some (Opened r)) v e = e
  noted_held f (Some (Promised c)) v e = e
  noted_held f (Some (Voted b)) v e = e
  noted_held f (Some (Held u)) v e = ap (λ h. first h u) e

  -- so what is held stays held
  after_held : (w : World V) (i : ℕ) (o : Option (Outcome V)) → IfSome o (IsNoted V (w.members i)) → (j : ℕ) (v : V)
      → (w.members j).held ≡ Some v → ((after_any w i o).members j).held ≡ Some v
  after_held w i None h j v e = e
  after_held w i (Some o) h j v e =
      elim (cases_Bool (j == i)) [
        | inl t1 ↦ rw t1 (ap (λ f. f.held) h.facts ∙ noted_held (facts_of (w.members i)) o.note v (ap (λ k. (w.members k).held) (sym (eqb-true j i t1)) ∙ e))
        | inr t0 ↦ rw t0 e
      ]

  event_held : (w : World V) → ((i : ℕ) → IsRestored V w i) → (e : Event V) → (j : ℕ) (v : V)
      → (w.members j).held ≡ Some v → ((after_event enough w e).members j).held ≡ Some v
  event_held w all e = after_held w (member_of e) _ (event_noted w all e)

  from_held : (events : List (Event V)) (w : World V) → ((i : ℕ) → IsRestored V w i) → (j : ℕ) (v : V)
      → (w.members j).held ≡ Some v → ((run enough events w).members j).held ≡ Some v
  from_held [] w all j v e = e
  from_held (x ∷ xs) w all j v e = from_held xs (after_event enough w x) (event_restored w all x) j v (event_held w all x j v e)

  pub run_held : (early late : List (Event V)) (j : ℕ) (v : V) → ((run enough early start).members j).held ≡ Some v
      → ((run enough (early ++ late) start).members j).held ≡ Some v
  run_held early late j v e =
      let P : World V → Type 0 = λ w. (w.members j).held ≡ Some v in
      subst P (sym (run_append enough early late start))
      (from_held late (run enough early start) (from_restored early start (λ i. record { facts = refl; closed = tt })) j v e)
