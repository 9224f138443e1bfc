-- Votes that were sent, and what a step's vote decides.
use Rattle.std.proofs.Common.{◌≡◌, ◌+◌, ◌<◌, ◌≤◌, ◌==◌, ◌&&◌, ◌||◌, ℕ, suc, Bool, true, false, not, List, [], ◌∷◌, ◌++◌, length, map, Vec, nat_lt, refl, sym, ap, ap₂, subst, ◌∙◌, arith, eqb-true, eq-eqb, ltb-true, lt-ltb, if◌then◌else◌, slice_set, bytes_eq, ltb-false, add-one}
use Rattle.std.proofs.lemmas.Bool.{and_from, and_parts, false_from_ne_true, true_from_ne_false, true≢false}
use Rattle.std.specs.List.{list_any}
use Rattle.claims.specs.Quorums.{Members, is_majority, named_in, with_member}
use Rattle.claims.proofs.Majorities.{named_more}
use Rattle.ballots.specs.Support.{Support, joined_by, named_with, set_of}
use Rattle.faults.specs.Bytes.{Text, is_among}
use Rattle.one_list.proofs.matching.LawfulMatch.{majority_within}
use Rattle.engine.proofs.Places.{equal_bytes, same_bytes}
use Rattle.simulator.specs.inside.Deciding.{makes_majority, sender_place}

-- ---- tests

same_tests : (a b : Bool) → (a ≡ true → b ≡ true) → (b ≡ true → a ≡ true) → a ≡ b
same_tests true b f g = sym (f refl)
same_tests false true f g = g refl
same_tests false false f g = refl

-- ---- tallies

-- adding an element that a set has changes nothing
named_again : (xs : List ℕ) (m k : ℕ) → named_in xs m ≡ true
    → named_in xs k ≡ with_member (named_in xs) m k
named_again xs m k e = by (k == m) refl
  where
    by : (b : Bool) → (k == m) ≡ b → named_in xs k ≡ b || named_in xs k
    by true t = ap (named_in xs) (eqb-true k m t) ∙ e
    by false f = refl

-- joining a tally adds the member to its set
pub joined_set : (s : Support) (m : ℕ) → set_of (joined_by s m) ≡ with_member (set_of s) m
joined_set s m = λ i k. member k i
  where
    by : (b : Bool) (k : ℕ) → named_in s.joined m ≡ b
        → named_in (if b then s.joined else s.joined ++ m ∷ []) k ≡ with_member (named_in s.joined)
        m k
    by true k t = named_again s.joined m k t
    by false k f = named_more s.joined m k

    member : (k : ℕ) → named_in (named_with s.joined m) k ≡ with_member (named_in s.joined) m k
    member k = by (named_in s.joined m) k refl

-- a sender that is not a member makes no majority
pub none_makes_none : (ws : List ℕ) (S : Members) (k : ℕ) → length ws ≤ k
    → makes_majority ws S k ≡ false
none_makes_none ws S k out = by (is_majority ws (with_member S k)) (is_majority ws S)
    (majority_within ws (with_member S k) S within)
  where
    within : (j : ℕ) → j < length ws → with_member S k j ≡ true → S j ≡ true
    within j lt e =
        let other : (j == k) ≡ false = false_from_ne_true (j == k) (λ t. let same : j ≡ k =
        eqb-true j k t in omega (arith, lt, out, same)) in
        sym (ap (λ b. b || S j) other) ∙ e

    by : (a b : Bool) → (a ≡ true → b ≡ true) → (a && not b) ≡ false
    by true true h = refl
    by true false h = absurd (true≢false (sym (h refl)))
    by false b h = refl

-- ---- the members that sent a vote

-- the members below this number that sent the vote
abbrev pub voters_below : ℕ → List Text → Text → Members
voters_below n sent vote k = nat_lt k n && is_among sent (slice_set vote sender_place k)

-- those below the next number are those below this one, and this one if it sent the vote
pub voters_next : (n : ℕ) (sent : List Text) (vote : Text)
    → is_among sent (slice_set vote sender_place n) ≡ true
    → with_member (voters_below n sent vote) n ≡ voters_below (suc n) sent vote
voters_next n sent vote voted = λ i k. at k i
  where
    at : (k : ℕ) → with_member (voters_below n sent vote) n k ≡ voters_below (suc n) sent vote k
    at k = by (k == n) refl
      where
        a : ℕ → Bool
        a j = is_among sent (slice_set vote sender_place j)

        by : (b : Bool) → (k == n) ≡ b → (b || (nat_lt k n && a k)) ≡ (nat_lt k (suc n) && a k)
        by true t =
            let same : k ≡ n = eqb-true k n t in
            sym (and_from (nat_lt k (suc n)) (a k) (lt-ltb k (suc n) (omega (arith, same)))
            (subst (λ j. a j ≡ true) (sym same) voted))
        by false f = same_tests (nat_lt k n && a k) (nat_lt k (suc n) && a k)
            (λ e. let p = and_parts (nat_lt k n) (a k) e in
            let lt = ltb-true k n p.0 in
            and_from (nat_lt k (suc n)) (a k) (lt-ltb k (suc n) (omega (arith, lt))) p.1)
            (λ e. let p = and_parts (nat_lt k (suc n)) (a k) e in
            let lt = ltb-true k (suc n) p.0 in
            and_from (nat_lt k n) (a k) (true_from_ne_false (nat_lt k n) (λ g.
            let ge = ltb-false k n g in
            let same : k ≡ n = omega (arith, lt, ge) in
            true≢false (sym (eq-eqb k n same) ∙ f))) p.1)

pub voters_same : (n : ℕ) (sent : List Text) (vote : Text)
    → is_among sent (slice_set vote sender_place n) ≡ false
    → voters_below n sent vote ≡ voters_below (suc n) sent vote
voters_same n sent vote none = λ i k. at k i
  where
    at : (k : ℕ) → voters_below n sent vote k ≡ voters_below (suc n) sent vote k
    at k = same_tests (nat_lt k n && a k) (nat_lt k (suc n) && a k)
        (λ e. let p = and_parts (nat_lt k n) (a k) e in
        let lt = ltb-true k n p.0 in
        and_from (nat_lt k (suc n)) (a k) (lt-ltb k (suc n) (omega (arith, lt))) p.1)
        (λ e. let p = and_parts (nat_lt k (suc n)) (a k) e in
        let lt = ltb-true k (suc n) p.0 in
        and_from (nat_lt k n) (a k) (true_from_ne_false (nat_lt k n) (λ g.
        let ge = ltb-false k n g in
        let same : k ≡ n = omega (arith, lt, ge) in
        true≢false (sym p.1 ∙ ap a same ∙ none))) p.1)
      where
        a : ℕ → Bool
        a j = is_among sent (slice_set vote sender_place j)

-- ---- one more iteration

-- After the iteration of a member, the tally has the voters below the next number; it joined if it
-- sent the vote.
pub voters_more : (n : ℕ) (sent : List Text) (vote : Text) (test : Bool) (old new : Support)
    → test ≡ is_among sent (slice_set vote sender_place n)
    → new ≡ (if test then joined_by old n else old)
    → set_of old ≡ voters_below n sent vote → set_of new ≡ voters_below (n + 1) sent vote
voters_more n sent vote true old new is joins below =
    ap set_of joins ∙ joined_set old n ∙ ap (λ (S : Members). with_member S n) below
    ∙ voters_next n sent vote (sym is) ∙ ap (λ k. voters_below k sent vote) (sym (add-one n))
voters_more n sent vote false old new is joins below =
    ap set_of joins ∙ below ∙ voters_same n sent vote (sym is)
    ∙ ap (λ k. voters_below k sent vote) (sym (add-one n))
