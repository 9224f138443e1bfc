-- What the nodes that are up show, and which of them are asked.
use Rattle.std.proofs.Common.{◌≡◌, ◌<◌, ◌≤◌, ◌+◌, ◌*◌, ◌==◌, ◌⊎◌, ℕ, zero, suc, max, Bool, true, false, List, [], ◌∷◌, filter, fold, length, map, nat_lt, Option, None, Some, slice_get, sum, refl, sym, ap, subst, ◌∙◌, arith, ⊎_elim, if◌then◌else◌}
use Rattle.std.specs.Prelude.{Contains}
use Rattle.std.specs.List.{range_with_len}
use Rattle.std.proofs.Math.Nat.{le-max_left, le-max_right}
use Rattle.std.proofs.lemmas.Bool.{cond_both, eq-eqb, or_left, or_right, true≢false}
use Rattle.claims.specs.AgreedList.{WasBuilt, beginning}
use Rattle.claims.specs.Claims.{is_above}
use Rattle.claims.specs.Member.{Facts, Member, Note, no_facts}
use Rattle.claims.specs.Quorums.{Members, is_majority, nobody, weight, with_member}
use Rattle.claims.specs.Votes.{Ballot, Reaches}
use Rattle.claims.specs.declared.claim.Claim.{Claim}
use Rattle.claims.proofs.AgreedList.{IsFine}
use Rattle.claims.proofs.Majorities.{majorities}
use Rattle.claims.proofs.Order.{below_test}
use Rattle.claims.proofs.Sound.{IsSound, IsVoted}
use Rattle.faults.specs.Bytes.{Text}
use Rattle.node.specs.State.{NodeState}
use Rattle.protocol.specs.State.{Value, facts_at}
use Rattle.protocol.specs.Step.{facts_named, facts_of_unit}
use Rattle.engine.specs.Division.{Division, number_found}
use Rattle.ways_on.specs.Asked.{is_majority_up}
use Rattle.ways_on.specs.Rounds.{last_round, next_claim, round_in, rounds_promised, seen_at, seen_of}
use Rattle.ways_on.specs.inside.Listed.{asked_of, nodes_up, until_majority}
use Rattle.ways_on.proofs.Appending.{later}
use Rattle.ways_on.proofs.Majority.{MakeMajority, joined_by, until_is_enough}
use Rattle.ways_on.proofs.Reached.{IsReached, its_acts, its_match, its_own}
use Rattle.world.specs.Happening.{is_up, up_of}
use Rattle.world.specs.World.{IsMade, World, WorldNode, member_at, node_at}
use Rattle.one_list.specs.Mirrored.{after_all_acts}
use Rattle.one_list.specs.Needs.{may_build}
use Rattle.one_list.proofs.sent.MessageHeaders.{in_order}
use Rattle.one_list.proofs.nodes.NodesAsMembers.{get_within}

-- ---- what is seen

-- a node that is up shows what it knows
pub seen_is : (w : World) (u j : ℕ) (x : WorldNode) → slice_get w.nodes j ≡ Some x → x.up ≡ true
    → seen_at w u j ≡ facts_at (member_at w j x) u
seen_is w u j x stands up =
    ap (seen_of w u j) stands
    ∙ ap (λ b. if b then facts_at (member_at w j x) u else no_facts) up

fold_from : (xs : List ℕ) (a : ℕ) → a ≤ fold max a xs
fold_from [] a = omega arith
fold_from (x ∷ xs) a = omega (arith, le-max_left a x, fold_from xs (max a x))

fold_of : {X : Type 0} (f : X → ℕ) (xs : List X) (a : ℕ) (x : X) → Contains xs x
    → f x ≤ fold max a (map f xs)
fold_of f [] a x (k, lt, e) = absurd (omega (arith, lt))
fold_of f (y ∷ ys) a x (zero, lt, e) =
    let same : f y ≡ f x = ap f e in
    omega (arith, same, le-max_right a (f y), fold_from (map f ys) (max a (f y)))
fold_of f (y ∷ ys) a x (suc k, lt, e) = fold_of f ys (max a (f y)) x (k, omega (arith, lt), e)

-- a number below n is among the first n
in_first : (a n j : ℕ) → a ≤ j → j < a + n → Contains (range_with_len a n) j
in_first a zero j le lt = absurd (omega (arith, le, lt))
in_first a (suc n) j le lt = ⊎_elim
    (λ same. (zero, omega arith, same))
    (λ above. later a (range_with_len (a + 1) n) j
    (in_first (a + 1) n j above (omega (arith, lt))))
    (first a j le)
  where
    first : (a j : ℕ) → a ≤ j → (a ≡ j) ⊎ (a + 1 ≤ j)
    first a j le = search arith

-- neither the round that the node opened nor one that is promised is above the last round
pub opened_within : (w : World) (u k : ℕ) → (seen_at w u k).opened ≤ last_round w u k
opened_within w u k = fold_from (rounds_promised w u) (seen_at w u k).opened

pub promised_within : (w : World) (u k j : ℕ) (x : WorldNode) → slice_get w.nodes j ≡ Some x
    → x.up ≡ true → round_in (facts_at (member_at w j x) u).promised ≤ last_round w u k
promised_within w u k j x stands up =
    subst (λ (f : Facts Value). round_in f.promised ≤ last_round w u k)
    (seen_is w u j x stands up)
    (fold_of (λ i. round_in (seen_at w u i).promised) (range_with_len 0 (length w.nodes))
    (seen_at w u k).opened j
    (in_first 0 (length w.nodes) j (omega arith)
    (let lt = get_within w.nodes j x stands in omega (arith, lt))))

-- a claim in a round above what is promised is above it
above_round : (p : Option Claim) (c : Claim) → round_in p < c.round → is_above c p ≡ true
above_round None c lt = refl
above_round (Some p) c lt = below_test p c (omega (arith, lt), λ e. omega (arith, lt, e))

-- So the next claim is above everything that is promised.
pub next_above : (w : World) (u k j : ℕ) (x : WorldNode) → slice_get w.nodes j ≡ Some x
    → x.up ≡ true
    → is_above (next_claim w u k) (facts_at (member_at w j x) u).promised ≡ true
next_above w u k j x stands up =
    let le = promised_within w u k j x stands up in
    above_round (facts_at (member_at w j x) u).promised (next_claim w u k) (omega (arith, le))

-- a vote is for a claim at or below the promised one
old_vote : (log : List (Note Value)) (voted : Option (Ballot Value)) (promised : Option Claim)
    (c : Claim) → IsVoted log voted promised → round_in promised < c.round → Reaches voted c → ⊥
old_vote log None promised c is lt h = h
old_vote log (Some b) None c is lt h = is.1
old_vote log (Some b) (Some p) c is lt h =
    let bound = is.1 in omega (arith, lt, h.0, bound.0)

-- No vote is at or above the next claim.
pub next_unvoted : (division : Division) (weights : List ℕ) (made : IsMade division weights)
    (w : World) (r : IsReached division weights made w) (u k j : ℕ) (x : WorldNode)
    → u < length w.division.units → slice_get w.nodes j ≡ Some x → x.up ≡ true
    → Reaches (seen_at w u j).voted (next_claim w u k) → ⊥
next_unvoted division weights made w r u k j x within stands up h =
    let acts = its_acts division weights made w r in
    let own = its_own division weights made w r in
    let m = its_match division weights made w r in
    let sound : IsSound Value (is_majority weights) (IsFine (may_build division)
    (WasBuilt (is_majority weights) (may_build division) acts beginning)
    (after_all_acts division weights acts).list u) ((after_all_acts division weights acts).at u) =
    (in_order division weights acts w made own m).sound u in
    let le = promised_within w u k j x stands up in
    old_vote (((after_all_acts division weights acts).at u).logs j)
    (facts_at (member_at w j x) u).voted (facts_at (member_at w j x) u).promised (next_claim w u k)
    (subst (λ (y : Member Value). IsVoted (((after_all_acts division weights acts).at u).logs j)
    y.voted y.promised) (m.members j u x stands within) (sound.voted j))
    (omega (arith, le))
    (subst (λ (f : Facts Value). Reaches f.voted (next_claim w u k)) (seen_is w u j x stands up) h)

-- a number that is up is that of a node
pub node_up : (w : World) (j : ℕ) → is_up w j ≡ true
    → (x : WorldNode) × (slice_get w.nodes j ≡ Some x) × (x.up ≡ true)
node_up w j on = by (slice_get w.nodes j) refl on
  where
    by : (o : Option WorldNode) → slice_get w.nodes j ≡ o → up_of o ≡ true
        → (x : WorldNode) × (slice_get w.nodes j ≡ Some x) × (x.up ≡ true)
    by None e up = absurd (true≢false (sym up))
    by (Some x) e up = (x, e, up)

-- what the node reports for the path that names the unit
pub told_is : (w : World) (path : Text) (u j : ℕ) (n : NodeState)
    → number_found w.division path ≡ Some u → is_up w j ≡ true
    → ((x : WorldNode) → slice_get w.nodes j ≡ Some x → n ≡ node_at w j x)
    → facts_named n.member path ≡ seen_at w u j
told_is w path u j n named on is =
    let x = node_up w j on in
    ap (λ (m : NodeState). facts_named m.member path) (is x.0 x.1)
    ∙ ap (facts_of_unit (member_at w j x.0)) named
    ∙ sym (seen_is w u j x.0 x.1 x.2)

-- ---- the nodes that are asked

-- the list is without duplicates
abbrev pub Apart : List ℕ → Type 0
Apart [] = Prim.Unit {0}
Apart (k ∷ ks) = ((j : ℕ) → Contains ks j → j ≡ k → ⊥) × Apart ks

kept_pass : (p : ℕ → Bool) (xs : List ℕ) (j : ℕ) → Contains (filter p xs) j → p j ≡ true
kept_pass p [] j (k, lt, e) = absurd (omega (arith, lt))
kept_pass p (x ∷ xs) j h =
    cond_both (p x) (x ∷ filter p xs) (filter p xs) (λ ys. Contains ys j → p j ≡ true)
    (λ on. first (λ g. kept_pass p xs j g) on) (λ off. kept_pass p xs j) h
  where
    first : (Contains (filter p xs) j → p j ≡ true) → p x ≡ true
        → Contains (x ∷ filter p xs) j → p j ≡ true
    first rest on (zero, lt, e) = sym (ap p e) ∙ on
    first rest on (suc k, lt, e) = rest (k, omega (arith, lt), e)

from_on : (p : ℕ → Bool) (a n j : ℕ) → Contains (filter p (range_with_len a n)) j → a ≤ j
from_on p a zero j (k, lt, e) = absurd (omega (arith, lt))
from_on p a (suc n) j h =
    cond_both (p a) (a ∷ filter p (range_with_len (a + 1) n)) (filter p (range_with_len (a + 1) n))
    (λ ys. Contains ys j → a ≤ j)
    (λ on. first (λ g. from_on p (a + 1) n j g))
    (λ off g. let le = from_on p (a + 1) n j g in omega (arith, le)) h
  where
    first : (Contains (filter p (range_with_len (a + 1) n)) j → a + 1 ≤ j)
        → Contains (a ∷ filter p (range_with_len (a + 1) n)) j → a ≤ j
    first rest (zero, lt, e) = omega (arith, e)
    first rest (suc k, lt, e) =
        let le = rest (k, omega (arith, lt), e) in omega (arith, le)

range_apart : (p : ℕ → Bool) (a n : ℕ) → Apart (filter p (range_with_len a n))
range_apart p a zero = tt
range_apart p a (suc n) =
    cond_both (p a) (a ∷ filter p (range_with_len (a + 1) n)) (filter p (range_with_len (a + 1) n))
    Apart
    (λ on. (
      λ j h e. let le = from_on p (a + 1) n j h in omega (arith, le, e),
      range_apart p (a + 1) n,
    ))
    (λ off. range_apart p (a + 1) n)

-- the nodes that are asked are among those that are up
until_within : (weights : List ℕ) (S : Members) (ks : List ℕ) (j : ℕ)
    → Contains (until_majority weights S ks) j → Contains ks j
until_within weights S [] j h = h
until_within weights S (k ∷ ks) j (zero, lt, e) = (zero, omega arith, e)
until_within weights S (k ∷ ks) j (suc i, lt, e) = later k ks j
    (cond_both (is_majority weights (with_member S k)) []
    (until_majority weights (with_member S k) ks) (λ ys. Contains ys j → Contains ks j)
    (λ on h. nothing h) (λ off h. until_within weights (with_member S k) ks j h)
    (i, omega (arith, lt), e))
  where
    nothing : Contains [] j → Contains ks j
    nothing (i, lt, e) = absurd (omega (arith, lt))

until_apart : (weights : List ℕ) (S : Members) (ks : List ℕ) → Apart ks
    → Apart (until_majority weights S ks)
until_apart weights S [] h = tt
until_apart weights S (k ∷ ks) h =
    cond_both (is_majority weights (with_member S k)) []
    (until_majority weights (with_member S k) ks) (λ ys. Apart (k ∷ ys))
    (λ on. ((λ j at. nothing j at), tt))
    (λ off. (
      λ j at. h.0 j (until_within weights (with_member S k) ks j at),
      until_apart weights (with_member S k) ks h.1,
    ))
  where
    nothing : (j : ℕ) → Contains [] j → j ≡ k → ⊥
    nothing j (i, lt, e) = absurd (omega (arith, lt))

pub asked_apart : (w : World) → Apart (asked_of w)
asked_apart w = until_apart w.weights nobody (nodes_up w)
    (range_apart (is_up w) 0 (length w.nodes))

-- each of them is up
pub asked_up : (w : World) (j : ℕ) → Contains (asked_of w) j
    → (x : WorldNode) × (slice_get w.nodes j ≡ Some x) × (x.up ≡ true)
asked_up w j h = node_up w j (kept_pass (is_up w) (range_with_len 0 (length w.nodes)) j
    (until_within w.weights nobody (nodes_up w) j h))

-- ---- they are a majority

nobody_weighs : (ws : List ℕ) → weight ws nobody ≡ 0
nobody_weighs [] = refl
nobody_weighs (v ∷ ws) = ap (λ n. 0 + n) (nobody_weighs ws)

nobody_is_none : (ws : List ℕ) → is_majority ws nobody ≡ false
nobody_is_none ws = ap (λ n. nat_lt (sum ws) (2 * n)) (nobody_weighs ws) ∙ never (sum ws)
  where
    never : (n : ℕ) → nat_lt n (2 * 0) ≡ false
    never n = search arith

joined_more : (S : Members) (ks : List ℕ) (j : ℕ) → S j ≡ true → joined_by S ks j ≡ true
joined_more S [] j on = on
joined_more S (k ∷ ks) j on =
    joined_more (with_member S k) ks j (or_right (j == k) (S j) on)

joined_has : (S : Members) (ks : List ℕ) (j : ℕ) → Contains ks j → joined_by S ks j ≡ true
joined_has S [] j (i, lt, e) = absurd (omega (arith, lt))
joined_has S (k ∷ ks) j (zero, lt, e) =
    joined_more (with_member S k) ks j (or_left (j == k) (S j) (eq-eqb j k (sym e)))
joined_has S (k ∷ ks) j (suc i, lt, e) =
    joined_has (with_member S k) ks j (i, omega (arith, lt), e)

-- an element that passes is in the filtered list
kept_in : (p : ℕ → Bool) (xs : List ℕ) (j : ℕ) → Contains xs j → p j ≡ true
    → Contains (filter p xs) j
kept_in p [] j (i, lt, e) on = absurd (omega (arith, lt))
kept_in p (x ∷ xs) j h on =
    cond_both (p x) (x ∷ filter p xs) (filter p xs) (λ ys. Contains ys j)
    (λ t. kept (λ g. kept_in p xs j g on) h) (λ off. left (λ g. kept_in p xs j g on) off h)
  where
    kept : (Contains xs j → Contains (filter p xs) j) → Contains (x ∷ xs) j
        → Contains (x ∷ filter p xs) j
    kept rest (zero, lt, e) = (zero, omega arith, e)
    kept rest (suc i, lt, e) = later x (filter p xs) j (rest (i, omega (arith, lt), e))

    left : (Contains xs j → Contains (filter p xs) j) → p x ≡ false → Contains (x ∷ xs) j
        → Contains (filter p xs) j
    left rest off (zero, lt, e) = absurd (true≢false (sym on ∙ sym (ap p e) ∙ off))
    left rest off (suc i, lt, e) = rest (i, omega (arith, lt), e)

pub up_joined : (w : World) (j : ℕ) → is_up w j ≡ true → joined_by nobody (nodes_up w) j ≡ true
up_joined w j on = joined_has nobody (nodes_up w) j
    (kept_in (is_up w) (range_with_len 0 (length w.nodes)) j
    (let n = node_up w j on in let lt = get_within w.nodes j n.0 n.1 in
    in_first 0 (length w.nodes) j (omega arith) (omega (arith, lt))) on)

pub asked_are_enough : (w : World) → is_majority_up w ≡ true
    → MakeMajority w.weights nobody (asked_of w)
asked_are_enough w up =
    until_is_enough w.weights nobody (nodes_up w) (nobody_is_none w.weights)
    ((majorities w.weights).grow (is_up w) (joined_by nobody (nodes_up w)) (up_joined w) up)
