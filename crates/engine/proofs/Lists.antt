-- Lists of positions.
use Rattle.std.proofs.Common.{◌≡◌, ◌==◌, ◌&&◌, ◌||◌, ◌≤◌, ◌<◌, ◌+◌, ◌++◌, not, ℕ, zero, suc, Bool, true, false, List, [], ◌∷◌, None, Some, ⊎_elim, refl, sym, ap, ◌∙◌, arith, cond, eqb-true, filter, get_or, length, map, nat_lt, position}
use Rattle.std.proofs.lemmas.Bool.{and_from, and_parts, cond_both, eq-eqb, eqb-false, false≢true, lt-ltb, ltb-true, or_cases, or_left, or_parts, or_right}
use Rattle.std.proofs.lemmas.Iterator.Adapters.{position_from-zero}
use Rattle.std.proofs.lemmas.List.Elements.{filter-append}
use Rattle.std.proofs.lemmas.List.FromFn.{get_or-range_with_len, length-range_with_len}
use Rattle.std.specs.List.{AllPairs, list_all, list_any, position_from, position_or_len, range_with_len}
use Rattle.std.specs.List.Sorted.{IsStrictlyIncreasing}
use Rattle.std.specs.Prelude.{Contains}
use Rattle.faults.proofs.Members.{contains_later}
use Rattle.engine.specs.Units.{is_in}

pub same_answers : (a b : Bool) → (a ≡ true → b ≡ true) → (b ≡ true → a ≡ true) → a ≡ b
same_answers true b to from = sym (to refl)
same_answers false true to from = from refl
same_answers false false to from = refl

pub not_true : (b : Bool) → (b ≡ true → ⊥) → b ≡ false
not_true true h = absurd (h refl)
not_true false h = refl

pub and_true : (b : Bool) → (b && true) ≡ b
and_true true = refl
and_true false = refl

pub and_false : (b : Bool) → (b && false) ≡ false
and_false true = refl
and_false false = refl

-- ---- filtered lists

pub kept_all : (P S : ℕ → Bool) (xs : List ℕ) → list_all P xs ≡ true → list_all P (filter S xs) ≡ true
kept_all P S [] e = refl
kept_all P S (x ∷ xs) e =
    let parts = and_parts (P x) _ e in
    let rest = kept_all P S xs parts.1 in
    cond_both (S x) (x ∷ filter S xs) (filter S xs) (λ ys. list_all P ys ≡ true) (λ t. and_from _ _ parts.0 rest) (λ f. rest)

pub kept_pass : (S : ℕ → Bool) (xs : List ℕ) → list_all S (filter S xs) ≡ true
kept_pass S [] = refl
kept_pass S (x ∷ xs) =
    cond_both (S x) (x ∷ filter S xs) (filter S xs) (λ ys. list_all S ys ≡ true) (λ t. and_from _ _ t (kept_pass S xs)) (λ f. kept_pass S xs)

pub passes : (P : ℕ → Bool) (xs : List ℕ) (k : ℕ) → list_all P xs ≡ true → is_in xs k ≡ true → P k ≡ true
passes P [] k all e = absurd (false≢true e)
passes P (x ∷ xs) k all e =
    let parts = and_parts (P x) _ all in
    ⊎_elim (λ same. sym (ap P (eqb-true x k same)) ∙ parts.0) (λ later. passes P xs k parts.1 later) (or_cases (x == k) _ e)

pub all_from : (P : ℕ → Bool) (xs : List ℕ) → ((q : ℕ) → is_in xs q ≡ true → P q ≡ true) → list_all P xs ≡ true
all_from P [] h = refl
all_from P (x ∷ xs) h =
    and_from (P x) _ (h x (or_left (x == x) _ (eq-eqb x x refl))) (all_from P xs (λ q e. h q (or_right (x == q) _ e)))

pub any_of : (P : ℕ → Bool) (xs : List ℕ) (q : ℕ) → is_in xs q ≡ true → P q ≡ true → list_any P xs ≡ true
any_of P [] q e p = absurd (false≢true e)
any_of P (x ∷ xs) q e p =
    ⊎_elim (λ same. or_left (P x) _ (ap P (eqb-true x q same) ∙ p)) (λ later. or_right (P x) _ (any_of P xs q later p)) (or_cases (x == q) _ e)

pub any_some : (P : ℕ → Bool) (xs : List ℕ) → list_any P xs ≡ true → (q : ℕ) × (is_in xs q ≡ true) × (P q ≡ true)
any_some P [] e = absurd (false≢true e)
any_some P (x ∷ xs) e =
    ⊎_elim (λ here. (x, or_left (x == x) _ (eq-eqb x x refl), here))
    (λ later. let rest = any_some P xs later in (rest.0, or_right (x == rest.0) _ rest.1, rest.2)) (or_cases (P x) _ e)

-- a member of a filtered list is a member that passes
pub in_kept : (P : ℕ → Bool) (xs : List ℕ) (q : ℕ) → is_in (filter P xs) q ≡ (is_in xs q && P q)
in_kept P [] q = refl
in_kept P (x ∷ xs) q = by (P x) (x == q) refl refl (in_kept P xs q)
  where
    by : (b e : Bool) → P x ≡ b → (x == q) ≡ e → is_in (filter P xs) q ≡ (is_in xs q && P q) → is_in (cond b (x ∷ filter P xs) (filter P xs)) q ≡ ((e || is_in xs q) && P q)
    by true true p same rest = ap (λ c. c || is_in (filter P xs) q) same ∙ sym (sym (ap P (eqb-true x q same)) ∙ p)
    by true false p same rest = ap (λ c. c || is_in (filter P xs) q) same ∙ rest
    by false true p same rest =
        let fails : P q ≡ false = sym (ap P (eqb-true x q same)) ∙ p in
        rest ∙ ap (λ c. is_in xs q && c) fails ∙ and_false (is_in xs q) ∙ sym fails
    by false false p same rest = rest

-- if nothing passes, the filtered list is empty
pub none_kept : (P : ℕ → Bool) (xs : List ℕ) → list_any P xs ≡ false → filter P xs ≡ []
none_kept P [] e = refl
none_kept P (x ∷ xs) e =
    let parts = or_parts (P x) _ e in
    let rest = none_kept P xs parts.1 in
    λ i. cond (parts.0 i) (x ∷ rest i) (rest i)

pub any-map : {X : Type 0} (t : X → Bool) (f : ℕ → X) (xs : List ℕ) → list_any t (map f xs) ≡ list_any (λ x. t (f x)) xs
any-map t f [] = refl
any-map t f (x ∷ xs) = ap (λ b. t (f x) || b) (any-map t f xs)

in_by : (q : ℕ) (xs : List ℕ) (k d : ℕ) → k < length xs → get_or xs k d ≡ q → is_in xs q ≡ true
in_by q [] k d lt e = absurd (omega arith)
in_by q (x ∷ xs) zero d lt e = or_left (x == q) _ (eq-eqb x q e)
in_by q (x ∷ xs) (suc k) d lt e = or_right (x == q) _ (in_by q xs k d (omega arith) e)

-- an element at an index is a member
pub in_at : (xs : List ℕ) (k d : ℕ) → k < length xs → is_in xs (get_or xs k d) ≡ true
in_at xs k d lt = in_by (get_or xs k d) xs k d lt refl

-- ---- ranges

pub range_below : (a n b : ℕ) → a + n ≤ b → list_all (λ q. nat_lt q b) (range_with_len a n) ≡ true
range_below a zero b le = refl
range_below a (suc n) b le = and_from _ _ (lt-ltb a b (omega (arith, le))) (range_below (a + 1) n b (omega (arith, le)))

pub in_range : (a n k : ℕ) → a ≤ k → k < a + n → is_in (range_with_len a n) k ≡ true
in_range a zero k le lt = absurd (omega (arith, le, lt))
in_range a (suc n) k le lt = by (a == k) refl (λ above. in_range (a + 1) n k above (omega (arith, lt)))
  where
    by : (b : Bool) → (a == k) ≡ b → (a + 1 ≤ k → is_in (range_with_len (a + 1) n) k ≡ true) → (a == k || is_in (range_with_len (a + 1) n) k) ≡ true
    by true e rest = ap (λ b. b || is_in (range_with_len (a + 1) n) k) e
    by false e rest =
        let apart = eqb-false a k e in
        ap (λ b. b || is_in (range_with_len (a + 1) n) k) e ∙ rest (omega (arith, le, apart))

pub below_in : (n q : ℕ) → q < n → is_in (range_with_len 0 n) q ≡ true
below_in n q lt = in_range 0 n q (omega arith) (omega (arith, lt))

pub in_below : (n q : ℕ) → is_in (range_with_len 0 n) q ≡ true → q < n
in_below n q e = ltb-true q n (passes (λ p. nat_lt p n) (range_with_len 0 n) q (range_below 0 n n (omega arith)) e)

pub range_rising : (n : ℕ) → AllPairs (λ x y. x < y) (range_with_len 0 n)
range_rising n i j d lt within =
    let len = length-range_with_len 0 n in
    let low = get_or-range_with_len 0 n i d (omega (arith, lt, within, len)) in
    let high = get_or-range_with_len 0 n j d (omega (arith, within, len)) in
    omega (arith, lt, low, high)

range_more : (a n : ℕ) → range_with_len a (suc n) ≡ range_with_len a n ++ (a + n) ∷ []
range_more a zero = let e : a ≡ a + 0 = omega arith in λ i. e i ∷ []
range_more a (suc n) =
    let e : (a + 1) + n ≡ a + suc n = omega arith in
    ap (λ xs. a ∷ xs) (range_more (a + 1) n) ∙ ap (λ m. a ∷ (range_with_len (a + 1) n ++ m ∷ [])) e

pub range_next : (n : ℕ) → range_with_len 0 (n + 1) ≡ range_with_len 0 n ++ n ∷ []
range_next n =
    let next : n + 1 ≡ suc n = omega arith in
    let last : 0 + n ≡ n = omega arith in
    ap (range_with_len 0) next ∙ range_more 0 n ∙ ap (λ m. range_with_len 0 n ++ m ∷ []) last

pub filter_next : (P : ℕ → Bool) (n : ℕ) → filter P (range_with_len 0 (n + 1)) ≡ filter P (range_with_len 0 n) ++ cond (P n) (n ∷ []) []
filter_next P n = ap (filter P) (range_next n) ∙ filter-append P (range_with_len 0 n) (n ∷ [])

-- tests that agree on the members of a list filter it alike
pub filter_same : (P S : ℕ → Bool) (xs : List ℕ) → ((q : ℕ) → is_in xs q ≡ true → P q ≡ S q) → filter P xs ≡ filter S xs
filter_same P S [] h = refl
filter_same P S (x ∷ xs) h =
    let head = h x (or_left (x == x) _ (eq-eqb x x refl)) in
    let tail = filter_same P S xs (λ q e. h q (or_right (x == q) _ e)) in
    λ i. cond (head i) (x ∷ tail i) (tail i)

pub map_same : {X : Type 0} (f g : ℕ → X) (xs : List ℕ) → ((q : ℕ) → is_in xs q ≡ true → f q ≡ g q) → map f xs ≡ map g xs
map_same f g [] h = refl
map_same f g (x ∷ xs) h =
    let head = h x (or_left (x == x) _ (eq-eqb x x refl)) in
    let tail = map_same f g xs (λ q e. h q (or_right (x == q) _ e)) in
    λ i. head i ∷ tail i

-- ---- the first index at which a test passes

position_from-map : {X Y : Type 0} (t : Y → Bool) (f : X → Y) (n : ℕ) (xs : List X) → position_from t n (map f xs) ≡ position_from (λ x. t (f x)) n xs
position_from-map t f n [] = refl
position_from-map t f n (x ∷ xs) = ap (cond (t (f x)) (Some n)) (position_from-map t f (n + 1) xs)

pub position-map : {X Y : Type 0} (t : Y → Bool) (f : X → Y) (xs : List X) → position t (map f xs) ≡ position (λ x. t (f x)) xs
position-map t f xs = position_from-zero t (map f xs) ∙ position_from-map t f 0 xs ∙ sym (position_from-zero (λ x. t (f x)) xs)

position_from-never : {X : Type 0} (n : ℕ) (xs : List X) → position_from (λ (x : X). false) n xs ≡ None
position_from-never n [] = refl
position_from-never n (x ∷ xs) = position_from-never (n + 1) xs

pub position-never : {X : Type 0} (xs : List X) → position (λ (x : X). false) xs ≡ None
position-never xs = position_from-zero (λ x. false) xs ∙ position_from-never 0 xs

position_from-push : {X : Type 0} (t : X → Bool) (n k : ℕ) (xs : List X) (y : X) → position_from t n xs ≡ Some k → position_from t n (xs ++ y ∷ []) ≡ Some k
position_from-push t n k [] y e = cc
position_from-push t n k (x ∷ xs) y e = by (t x) e (position_from-push t (n + 1) k xs y)
  where
    by : (b : Bool) → cond b (Some n) (position_from t (n + 1) xs) ≡ Some k → (position_from t (n + 1) xs ≡ Some k → position_from t (n + 1) (xs ++ y ∷ []) ≡ Some k)
        → cond b (Some n) (position_from t (n + 1) (xs ++ y ∷ [])) ≡ Some k
    by true found rest = found
    by false found rest = rest found

-- what is found in a list is found at the same index after an append
pub position-push : {X : Type 0} (t : X → Bool) (k : ℕ) (xs : List X) (y : X) → position t xs ≡ Some k → position t (xs ++ y ∷ []) ≡ Some k
position-push t k xs y e = position_from-zero t (xs ++ y ∷ []) ∙ position_from-push t 0 k xs y (sym (position_from-zero t xs) ∙ e)

-- if a passing element is appended, the first index stays the same, or is the old length
pub first_place-push : {X : Type 0} (t : X → Bool) (xs : List X) (y : X) → t y ≡ true → position_or_len t (xs ++ y ∷ []) ≡ position_or_len t xs
first_place-push t [] y e = ap (λ b. cond (not b) 1 0) e
first_place-push t (x ∷ xs) y e = ap (λ n. cond (not (t x)) (1 + n) 0) (first_place-push t xs y e)

place_by : (b : Bool) (n k : ℕ) → cond b (Some n) None ≡ Some k → n ≡ k
place_by true n k e = cc
place_by false n k e = cc

-- the index that is found is the first
pub found_place : {X : Type 0} (t : X → Bool) (xs : List X) (k : ℕ) → position t xs ≡ Some k → position_or_len t xs ≡ k
found_place t xs k e = place_by (nat_lt (position_or_len t xs) (length xs)) (position_or_len t xs) k e

place_from : {X : Type 0} (t : X → Bool) (n : ℕ) (xs : List X) → list_any t xs ≡ true → (k : ℕ) × (position_from t n xs ≡ Some k)
place_from t n [] e = absurd (false≢true e)
place_from t n (x ∷ xs) e = by (t x) e (place_from t (n + 1) xs)
  where
    by : (b : Bool) → (b || list_any t xs) ≡ true → (list_any t xs ≡ true → (k : ℕ) × (position_from t (n + 1) xs ≡ Some k)) → (k : ℕ) × (cond b (Some n) (position_from t (n + 1) xs) ≡ Some k)
    by true e rest = (n, refl)
    by false e rest = rest e

-- if some element passes, there is a first one
pub place_there : {X : Type 0} (t : X → Bool) (xs : List X) → list_any t xs ≡ true → (k : ℕ) × (position t xs ≡ Some k)
place_there t xs e = let from = place_from t 0 xs e in (from.0, position_from-zero t xs ∙ from.1)

-- ---- members

pub contains_in : (xs : List ℕ) (q : ℕ) → Contains xs q → is_in xs q ≡ true
contains_in xs q member = in_by q xs member.0 q member.1 member.2

pub in_contains : (xs : List ℕ) (q : ℕ) → is_in xs q ≡ true → Contains xs q
in_contains [] q e = absurd (false≢true e)
in_contains (x ∷ xs) q e =
    ⊎_elim (λ same. (0, omega arith, eqb-true x q same)) (λ later. contains_later x q xs (in_contains xs q later)) (or_cases (x == q) _ e)

pub range_increasing : (n : ℕ) → IsStrictlyIncreasing (range_with_len 0 n)
range_increasing n k lt = range_rising n k (k + 1) 0 (omega arith) lt

from_new : {X : Type 0} (t : X → Bool) (n : ℕ) (xs : List X) (y : X) → list_any t xs ≡ false → t y ≡ true → position_from t n (xs ++ y ∷ []) ≡ Some (n + length xs)
from_new t n [] y none here =
    let last : n ≡ n + 0 = omega arith in
    ap (λ b. cond b (Some n) None) here ∙ ap (λ k. Some k) last
from_new t n (x ∷ xs) y none here =
    let parts = or_parts (t x) _ none in
    let next : (n + 1) + length xs ≡ n + suc (length xs) = omega arith in
    ap (λ b. cond b (Some n) (position_from t (n + 1) (xs ++ y ∷ []))) parts.0 ∙ from_new t (n + 1) xs y parts.1 here ∙ ap (λ k. Some k) next

-- the appended element is the first that passes
pub place_new : {X : Type 0} (t : X → Bool) (xs : List X) (y : X) → list_any t xs ≡ false → t y ≡ true → position t (xs ++ y ∷ []) ≡ Some (length xs)
place_new t xs y none here =
    let last : 0 + length xs ≡ length xs = omega arith in
    position_from-zero t (xs ++ y ∷ []) ∙ from_new t 0 xs y none here ∙ ap (λ k. Some k) last
