-- An answer leaves a valid member.
use Rattle.std.proofs.Common.{◌≡◌, ◌==◌, ◌<◌, ◌≤◌, ◌*◌, ℕ, true, false, All, List, [], ◌∷◌, Option}
use Rattle.std.proofs.Common.{Some, None, arith, eqb-true, refl, sym, subst, ap, ◌∙◌, length}
use Rattle.std.proofs.Common.{option_map, sum}
use Rattle.std.specs.Prelude.{unwrap_or}
use Rattle.std.specs.Option.{ForSome}
use Rattle.std.proofs.lemmas.Bool.{cond-false, cond-true, cond_both, eq-eqb, eqb-false, ne_eqb}
use Rattle.std.proofs.lemmas.Bool.{le-ltb}
use Rattle.std.proofs.lemmas.List.Elements.{All-weaker}
use Rattle.claims.specs.Noted.{IsClosedWhereHeld, IsNoted}
use Rattle.claims.specs.Quorums.{is_majority, named_in, nobody, weight}
use Rattle.claims.specs.Member as members
use Rattle.claims.specs.Member.{Facts, facts_of, no_facts, noted_any}
use Rattle.claims.specs.Nodes as nodes
use Rattle.claims.specs.Step.{Outcome}
use Rattle.claims.specs.World.{put}
use Rattle.claims.specs.declared.claim.Claim.{Claim}
use Rattle.claims.specs.Claim.{IsClaim}
use Rattle.engine.specs.Division.{unit_at}
use Rattle.engine.proofs.Names.{name_is_found}
use Rattle.protocol.specs.State.{OpenClaim, Progress, Gathering, Building, Voting, State, Value}
use Rattle.protocol.specs.State.{facts_at, holds_package}
use Rattle.protocol.specs.InTheAgreement.{claim_of, members_in, progress_of, stage_of, view}
use Rattle.protocol.specs.Laws.{IsReady}
use Rattle.protocol.specs.Member.{IsMember, IsOpen, claim_in, joined_so_far}
use Rattle.protocol.specs.Answers.{Answer}
use Rattle.protocol.specs.Answers.{after, answered, claim_then, dropped, note_at}
use Rattle.protocol.specs.Step.{host_in}
use Rattle.protocol.proofs.GoodClaims.{IsGoodStage}
use Rattle.protocol.proofs.Heard.{IsFit}
use Rattle.protocol.proofs.Known.{each_then, package_stays_held, pledged_then}
use Rattle.protocol.proofs.TheTheory.{IsWithin, facts_are, named}

-- The member may have this claim open for the unit, on this host.
pub record IsOwn (s : State) (u at : ℕ) (c : Claim) : Type 0 where
  pub host : at ≤ 65535
  pub claim : IsClaim c
  pub own : c.member ≡ s.me
  pub ready : All (λ p. holds_package s p ≡ true) (unit_at s.division u).build

-- The stage is that of such a claim, which waits for more members.
abbrev pub IsGood : State → ℕ → ℕ → members.Stage Value → Type 0
IsGood s u host stage = IsGoodStage (IsOwn s u host) (is_majority s.weights) stage

-- the empty set is not a majority
nobody_weighs : (ws : List ℕ) → weight ws nobody ≡ 0
nobody_weighs [] = refl
nobody_weighs (w ∷ ws) = let rest = nobody_weighs ws in omega (arith, rest)

pub nobody_is_short : (ws : List ℕ) → is_majority ws nobody ≡ false
nobody_is_short ws = le-ltb (sum ws) (2 * weight ws nobody)
    (let none = nobody_weighs ws in omega (arith, none))

-- ---- the open claim satisfies this

open_is_good : (s : State) (u host : ℕ) (p : Progress) → IsOwn s u host (claim_in p)
    → is_majority s.weights (named_in (joined_so_far p)) ≡ false
    → IsGood s u host (stage_of p)
open_is_good s u host (Gathering c joined k) own short = (own, short)
open_is_good s u host (Building c) own short = own
open_is_good s u host (Voting b joined) own short = (own, short)

good_by_claim : (s : State) (u : ℕ) (claim : Option OpenClaim) → ForSome claim (IsOpen s)
    → IsGood s u (host_in claim) (nodes.stage_at (option_map claim_of claim) u)
good_by_claim s u None is = tt
good_by_claim s u (Some o) is =
    cond_both (u == o.unit) (stage_of o.progress) members.Closed (IsGood s u o.host)
    (λ same. subst (λ v. IsGood s v o.host (stage_of o.progress)) (sym (eqb-true u o.unit same))
    (let good = is o refl in
    open_is_good s o.unit o.host o.progress
    (record { host = good.host; claim = good.claim; own = good.own; ready = good.ready })
    good.short))
    (λ other. tt)

pub view_is_good : (s : State) (u : ℕ) → IsMember s → IsGood s u (host_in s.claim) (view s u).stage
view_is_good s u is = good_by_claim s u s.claim is.claim

-- ---- the claim that an answer leaves

-- a member with an open claim does not hold the unit
not_held_while_open : {V : Type 0} (h : Option V) (stage : members.Stage V)
    → IsClosedWhereHeld h stage → (stage ≡ members.Closed → ⊥) → h ≡ None
not_held_while_open None stage closed is_open = refl
not_held_while_open (Some v) stage closed is_open = absurd (is_open closed)

-- what holds of the value holds of it as an option
for_this : {X : Type 0} (P : X → Type 0) (x : X) → P x → ForSome (Some x) P
for_this P x holds y e = subst P (ap (λ o. unwrap_or o x) e) holds

-- The effect of an answer: the member stays valid, and if a claim is open, everything that its
-- build needs was held before.
pub record IsLeft (s : State) (a : Answer) : Type 0 where
  pub member : IsMember (after s a)
  pub ready : ForSome a.claim (IsReady s)

module _ (s : State) (u host : ℕ) (to : List ℕ) (o : Outcome Value) (is : IsMember s)
    (lt : u < length s.division.units) (noted : IsNoted Value (view s u) o) where
  -- the member after the answer
  abbrev left : State
  left = after s (answered s u host to o)

  facts_then_are : (q : ℕ) → facts_at left q ≡ put (facts_at s) u (facts_of o.member) q
  facts_then_are q =
      facts_are s u q (facts_of o.member) o.note (subst (λ n. u < n) (sym is.each) lt)
      (name_is_found s.division u is.division lt) noted.facts

  all_ready : (v : ℕ) → All (λ p. holds_package s p ≡ true) (unit_at s.division v).build
      → All (λ p. holds_package left p ≡ true) (unit_at s.division v).build
  all_ready v ready = All-weaker (λ p. holds_package s p ≡ true) (λ p. holds_package left p ≡ true)
      (λ p held. package_stays_held s (answered s u host to o) p held) (unit_at s.division v).build
      ready

  -- a claim for another unit stays the same
  other_stays : (p : OpenClaim) → IsOpen s p → (u == p.unit) ≡ false → IsOpen left p
  other_stays p good other = record {
    unit = good.unit;
    not_held = ap (λ (f : Facts Value). f.held)
        (facts_then_are p.unit ∙ cond-false (p.unit == u) _ _ (flipped u p.unit other))
        ∙ good.not_held;
    host = good.host;
    claim = good.claim;
    own = good.own;
    joined = good.joined;
    short = good.short;
    ready = all_ready p.unit good.ready;
  }
    where
      flipped : (j k : ℕ) → (j == k) ≡ false → (k == j) ≡ false
      flipped j k e = ne_eqb k j (λ same. eqb-false j k e (sym same))

  dropped_is_open : (claim : Option OpenClaim) → ForSome claim (IsOpen s)
      → ForSome (dropped claim u) (IsOpen left)
  dropped_is_open None are = λ p e. absurd (let no : None ≡ Some p = e in cc)
  dropped_is_open (Some p) are =
      cond_both (u == p.unit) None (Some p) (λ claim. ForSome claim (IsOpen left))
      (λ same q e. absurd (let no : None ≡ Some q = e in cc))
      (λ other. for_this (IsOpen left) p (other_stays p (are p refl) other))

  -- the claim of the unit
  own_is_open : (p : Progress) (stage : members.Stage Value) → o.member.stage ≡ stage
      → (stage ≡ members.Closed → ⊥) → IsOwn s u host (claim_in p)
      → progress_of (length s.weights) (stage_of p) ≡ Some p
      → is_majority s.weights (named_in (joined_so_far p)) ≡ false
      → IsOpen left (record { unit = u; host = host; progress = p })
  own_is_open p stage at is_open own joined short = record {
    unit = lt;
    not_held =
        ap (λ (f : Facts Value). f.held)
        (facts_then_are u ∙ cond-true (u == u) _ _ (eq-eqb u u refl))
        ∙ not_held_while_open o.member.held stage
        (subst (IsClosedWhereHeld o.member.held) at noted.closed) is_open;
    host = own.host;
    claim = own.claim;
    own = own.own;
    joined = joined;
    short = short;
    ready = all_ready u own.ready;
  }

  -- whatever the stage is
  claim_is_open : (stage : members.Stage Value) → o.member.stage ≡ stage → IsGood s u host stage
      → IsWithin (length s.weights) stage
      → ForSome (claim_then s.claim u host (progress_of (length s.weights) stage)) (IsOpen left)
  claim_is_open members.Closed at good within = dropped_is_open s.claim is.claim
  claim_is_open (members.Gathering c S k) at good within =
      let n = length s.weights in
      let same : named_in (members_in n S) ≡ S = λ i k. named n S within k i in
      for_this (IsOpen left) _
      (own_is_open (Gathering c (members_in n S) k) (members.Gathering c S k) at (λ e. cc) good.0
      (ap (λ T. Some (Gathering c (members_in n T) k)) same)
      (ap (is_majority s.weights) same ∙ good.1))
  claim_is_open (members.Building c) at good within =
      for_this (IsOpen left) _
      (own_is_open (Building c) (members.Building c) at (λ e. cc) good refl
      (nobody_is_short s.weights))
  claim_is_open (members.Voting b S) at good within =
      let n = length s.weights in
      let same : named_in (members_in n S) ≡ S = λ i k. named n S within k i in
      for_this (IsOpen left) _
      (own_is_open (Voting b (members_in n S)) (members.Voting b S) at (λ e. cc) good.0
      (ap (λ T. Some (Voting b (members_in n T))) same) (ap (is_majority s.weights) same ∙ good.1))

  -- what the build of the claim needs was held before
  claim_was_ready : (stage : members.Stage Value) → IsGood s u host stage
      → ForSome (claim_then s.claim u host (progress_of (length s.weights) stage)) (IsReady s)
  claim_was_ready members.Closed good = by_claim s.claim is.claim
    where
      by_claim : (claim : Option OpenClaim) → ForSome claim (IsOpen s)
          → ForSome (dropped claim u) (IsReady s)
      by_claim None are = λ p e. absurd (let no : None ≡ Some p = e in cc)
      by_claim (Some p) are =
          cond_both (u == p.unit) None (Some p) (λ claim. ForSome claim (IsReady s))
          (λ same q e. absurd (let no : None ≡ Some q = e in cc))
          (λ other. for_this (IsReady s) p (record { unit = (are p refl).unit; ready = (are p refl).ready }))
  claim_was_ready (members.Gathering c S k) good =
      for_this (IsReady s) _ (record { unit = lt; ready = good.0.ready })
  claim_was_ready (members.Building c) good =
      for_this (IsReady s) _ (record { unit = lt; ready = good.ready })
  claim_was_ready (members.Voting b S) good =
      for_this (IsReady s) _ (record { unit = lt; ready = good.0.ready })

  -- So the member stays valid, if the outcome's claim satisfies this.
  still_a_member : IsFit (length s.weights) s.me o → IsGood s u host o.member.stage
      → IsMember left
  still_a_member fit good = record {
    division = is.division;
    weights = is.weights;
    one_of_them = is.one_of_them;
    each = each_then s.division s.facts (option_map (note_at s u) o.note) ∙ is.each;
    pledged = pledged_then s.division s.facts (option_map (note_at s u) o.note) is.pledged;
    claim = claim_is_open o.member.stage refl good fit.within;
  }

  -- and what its claim needs was held before
  pub left_so : IsFit (length s.weights) s.me o → IsGood s u host o.member.stage
      → IsLeft s (answered s u host to o)
  left_so fit good =
      record { member = still_a_member fit good; ready = claim_was_ready o.member.stage good }
