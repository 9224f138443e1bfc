-- Sets of positions: ascending, without duplicates.
use Rattle.std.proofs.Common.{◌≡◌, ◌<◌, ◌≤◌, ◌+◌, ◌++◌, ◌&&◌, ◌||◌, ◌==◌, ℕ, suc, zero, Bool, true, false, cond, List, [], ◌∷◌, All, Contains, length, map, filter, get_or, position, Option, None, Some, refl, sym, ap, subst, ◌∙◌, arith, eq-eqb, true≢false, inl, inr}
use Rattle.std.proofs.Math.Bool.{or-true}
use Rattle.std.specs.List.{list_any, enumerate_from, filter_map, cons_option, IsDistinct, AllByRecursion, position_from}
use Rattle.std.specs.List.Sorted.{IsStrictlyIncreasing}
use Rattle.std.specs.Str.{bytes_eq}
use Rattle.std.proofs.lemmas.Bool.{cases_eq, cases_lt, eqb-true}
use Rattle.std.proofs.lemmas.Bool.Decides.{nat_tests}
use Rattle.std.proofs.lemmas.List.Elements.{All-cons, All-nil, Contains-append_right}
use Rattle.std.proofs.lemmas.Iterator.Adapters.{position_from-zero}
use Rattle.std.proofs.lemmas.Map.Keys.{IsDistinct-head, IsDistinct-tail}
use Rattle.faults.specs.Bytes.{Text, is_among}
use Rattle.listing.specs.Listing.{positions_of}
use Rattle.listing.proofs.Settings.{same_text}

abbrev pub has : ℕ → List ℕ → Bool
has p xs = list_any (λ q. q == p) xs

same_bools : (a b : Bool) → (a ≡ true → b ≡ true) → (b ≡ true → a ≡ true) → a ≡ b
same_bools true b f g = sym (f refl)
same_bools false true f g = g refl
same_bools false false f g = refl

or_assoc : (a b c : Bool) → (a || (b || c)) ≡ ((a || b) || c)
or_assoc true b c = refl
or_assoc false b c = refl

pub any_append : {X : Type 0} (f : X → Bool) (xs ys : List X) → list_any f (xs ++ ys) ≡ (list_any f xs || list_any f ys)
any_append f [] ys = refl
any_append f (x ∷ xs) ys = ap (λ b. f x || b) (any_append f xs ys) ∙ or_assoc (f x) (list_any f xs) (list_any f ys)

-- ---- elements of a list

contains_by : (p x : ℕ) (xs : List ℕ) (b : Bool) → (x == p) ≡ b → (b || has p xs) ≡ true → (has p xs ≡ true → Contains xs p) → Contains (x ∷ xs) p
contains_by p x xs true e h rest = (0, omega arith, eqb-true x p e)
contains_by p x xs false e h rest = Contains-append_right (x ∷ []) xs p (rest h)

pub contains_from_has : (p : ℕ) (xs : List ℕ) → has p xs ≡ true → Contains xs p
contains_from_has p [] h = cc
contains_from_has p (x ∷ xs) h = contains_by p x xs (x == p) refl h (contains_from_has p xs)

has_at : (p : ℕ) (xs : List ℕ) (k : ℕ) → k < length xs → get_or xs k p ≡ p → has p xs ≡ true
has_at p [] k l e = absurd (omega arith)
has_at p (x ∷ xs) zero l e = ap (λ b. b || has p xs) (eq-eqb x p e)
has_at p (x ∷ xs) (suc k) l e = ap (λ b. (x == p) || b) (has_at p xs k (omega arith) e) ∙ or-true (x == p)

pub has_from_contains : (p : ℕ) (xs : List ℕ) → Contains xs p → has p xs ≡ true
has_from_contains p xs h = has_at p xs h.0 h.1 h.2

pub has_same : (xs ys : List ℕ) (p : ℕ) → (Contains xs p → Contains ys p) → (Contains ys p → Contains xs p) → has p xs ≡ has p ys
has_same xs ys p f g =
    same_bools (has p xs) (has p ys) (λ h. has_from_contains p ys (f (contains_from_has p xs h))) (λ h. has_from_contains p xs (g (contains_from_has p ys h)))

-- ---- ascending lists

-- ascending, and not below b
abbrev pub Rising : ℕ → List ℕ → Type 0
Rising b [] = Unit {0}
Rising b (x ∷ xs) = (b ≤ x) × Rising (x + 1) xs

rising_from : (b : ℕ) (xs : List ℕ) → IsStrictlyIncreasing xs → (0 < length xs → b ≤ get_or xs 0 0) → Rising b xs
rising_from b [] up first = tt
rising_from b (x ∷ xs) up first = (
  first (omega arith),
  rising_from (x + 1) xs
      (λ k l. let e : suc k + 1 ≡ suc (k + 1) = omega arith in subst (λ i. get_or xs k 0 < get_or (x ∷ xs) i 0) e (up (suc k) (omega arith))) (λ l. let next : x < get_or xs 0 0 = up 0 (omega arith) in omega arith),
)

rising_weaker : (b c : ℕ) (xs : List ℕ) → b ≤ c → Rising c xs → Rising b xs
rising_weaker b c [] le h = tt
rising_weaker b c (x ∷ xs) le h = (omega (arith, h.0), h.1)

first_above : (b : ℕ) (xs : List ℕ) → Rising b xs → 0 < length xs → b ≤ get_or xs 0 0
first_above b [] h l = absurd (omega arith)
first_above b (x ∷ xs) h l = h.0

pub increasing_from : (b : ℕ) (xs : List ℕ) → Rising b xs → IsStrictlyIncreasing xs
increasing_from b [] h k l = absurd (omega arith)
increasing_from b (x ∷ xs) h zero l = let next = first_above (x + 1) xs h.1 (omega arith) in omega arith
increasing_from b (x ∷ xs) h (suc k) l =
    let e : suc (k + 1) ≡ suc k + 1 = omega arith in
    subst (λ i. get_or xs k 0 < get_or (x ∷ xs) i 0) e (increasing_from (x + 1) xs h.1 k (omega arith))

-- nothing is below b
not_below : (b p : ℕ) (xs : List ℕ) → Rising b xs → p < b → has p xs ≡ false
not_below b p [] h l = refl
not_below b p (x ∷ xs) h l =
    let apart : (x == p) ≡ false = grind (arith, nat_tests, h.0) in
    ap (λ c. c || has p xs) apart ∙ not_below (x + 1) p xs h.1 (omega (arith, h.0))

self_eq : (x : ℕ) → (x == x) ≡ true
self_eq x = eq-eqb x x refl

-- the first numbers are equal
heads_same : (x y b : ℕ) (xs ys : List ℕ) → Rising b (x ∷ xs) → Rising b (y ∷ ys) → ((p : ℕ) → has p (x ∷ xs) ≡ has p (y ∷ ys)) → x ≡ y
heads_same x y b xs ys hx hy same =
    elim (cases_lt x y) [
      | inl below ↦ absurd (true≢false (sym (ap (λ c. c || has x xs) (self_eq x)) ∙ same x ∙ not_below y x (y ∷ ys) (omega arith, hy.1) below))
      | inr above ↦ elim (cases_eq x y) [
        | inl e ↦ e
        | inr other ↦ absurd (true≢false (sym (ap (λ c. c || has y ys) (self_eq y)) ∙ sym (same y) ∙ not_below x y (x ∷ xs) (omega arith, hx.1) (omega arith)))
      ]
    ]

tails_by : (x p : ℕ) (xs ys : List ℕ) (b : Bool) → (x == p) ≡ b → Rising (x + 1) xs → Rising (x + 1) ys → (b || has p xs) ≡ (b || has p ys) → has p xs ≡ has p ys
tails_by x p xs ys true e hx hy same =
    let at : x ≡ p = eqb-true x p e in
    not_below (x + 1) p xs hx (omega (arith, at)) ∙ sym (not_below (x + 1) p ys hy (omega (arith, at)))
tails_by x p xs ys false e hx hy same = same

-- ascending lists with the same elements are equal
pub same_rising : (b : ℕ) (xs ys : List ℕ) → Rising b xs → Rising b ys → ((p : ℕ) → has p xs ≡ has p ys) → xs ≡ ys
same_rising b [] [] hx hy same = refl
same_rising b [] (y ∷ ys) hx hy same = absurd (true≢false (sym (ap (λ c. c || has y ys) (self_eq y)) ∙ sym (same y)))
same_rising b (x ∷ xs) [] hx hy same = absurd (true≢false (sym (ap (λ c. c || has x xs) (self_eq x)) ∙ same x))
same_rising b (x ∷ xs) (y ∷ ys) hx hy same =
    let e = heads_same x y b xs ys hx hy same in
    let up : Rising (x + 1) ys = subst (λ n. Rising (n + 1) ys) (sym e) hy.1 in
    let heads : (p : ℕ) → (y == p) ≡ (x == p) = λ p. ap (λ n. n == p) (sym e) in
    let tails = same_rising (x + 1) xs ys hx.1 up (λ p. tails_by x p xs ys (x == p) refl hx.1 up (same p ∙ ap (λ c. c || has p ys) (heads p))) in
    λ i. e i ∷ tails i

-- ---- the positions of listed paths

abbrev positions_from : ℕ → List Text → List Text → List ℕ
positions_from n listed qs = map (λ (e : ℕ × Text). e.0) (filter (λ (e : ℕ × Text). is_among qs e.1) (enumerate_from n listed))

rising_by : (n : ℕ) (rest : List ℕ) (b : Bool) → Rising (n + 1) rest → Rising n (cond b (n ∷ rest) rest)
rising_by n rest true h = (omega arith, h)
rising_by n rest false h = rising_weaker n (n + 1) rest (omega arith) h

map_cond : (n : ℕ) (x : Text) (es : List (ℕ × Text)) (b : Bool) → map (λ (e : ℕ × Text). e.0) (cond b ((n, x) ∷ es) es) ≡ cond b (n ∷ map (λ (e : ℕ × Text). e.0) es) (map (λ (e : ℕ × Text). e.0) es)
map_cond n x es true = refl
map_cond n x es false = refl

positions_rising : (n : ℕ) (listed qs : List Text) → Rising n (positions_from n listed qs)
positions_rising n [] qs = tt
positions_rising n (x ∷ xs) qs =
    subst (Rising n) (sym (map_cond n x (filter (λ (e : ℕ × Text). is_among qs e.1) (enumerate_from (n + 1) xs)) (is_among qs x)))
    (rising_by n (positions_from (n + 1) xs qs) (is_among qs x) (positions_rising (n + 1) xs qs))

below_by : (n m : ℕ) (rest : List ℕ) (b : Bool) → n < m → All (λ p. p < m) rest → All (λ p. p < m) (cond b (n ∷ rest) rest)
below_by n m rest true l h = All-cons (λ p. p < m) n rest l h
below_by n m rest false l h = h

positions_below : (n m : ℕ) (listed qs : List Text) → n + length listed ≤ m → All (λ p. p < m) (positions_from n listed qs)
positions_below n m [] qs le = All-nil (λ p. p < m)
positions_below n m (x ∷ xs) qs le =
    subst (All (λ p. p < m)) (sym (map_cond n x (filter (λ (e : ℕ × Text). is_among qs e.1) (enumerate_from (n + 1) xs)) (is_among qs x)))
    (below_by n m (positions_from (n + 1) xs qs) (is_among qs x) (omega arith) (positions_below (n + 1) m xs qs (omega arith)))

pub positions_of-increasing : (listed qs : List Text) → IsStrictlyIncreasing (positions_of listed qs)
positions_of-increasing listed qs = increasing_from 0 (positions_of listed qs) (positions_rising 0 listed qs)

pub positions_of-within : (listed qs : List Text) → All (λ p. p < length listed) (positions_of listed qs)
positions_of-within listed qs = positions_below 0 (length listed) listed qs (omega arith)

-- ---- the positions of dependencies, one by one

-- Whether the position is p.
abbrev pub is_at : ℕ → Option ℕ → Bool
is_at p None = false
is_at p (Some q) = q == p

pub has_filter_map : {X : Type 0} (f : X → Option ℕ) (p : ℕ) (xs : List X) → has p (filter_map f xs) ≡ list_any (λ x. is_at p (f x)) xs
has_filter_map f p [] = refl
has_filter_map f p (x ∷ xs) = by (f x) (has_filter_map f p xs)
  where
    by : (o : Option ℕ) → has p (filter_map f xs) ≡ list_any (λ y. is_at p (f y)) xs → has p (cons_option o (filter_map f xs)) ≡ (is_at p o || list_any (λ y. is_at p (f y)) xs)
    by None e = e
    by (Some q) e = ap (λ b. (q == p) || b) e

has_cond : (p n : ℕ) (rest : List ℕ) (b : Bool) → has p (cond b (n ∷ rest) rest) ≡ ((b && (n == p)) || has p rest)
has_cond p n rest true = refl
has_cond p n rest false = refl

-- a position is there if and only if the listed path at it is among these
has_positions : (p n : ℕ) (listed qs : List Text) → has p (positions_from n listed qs) ≡ list_any (λ (e : ℕ × Text). is_among qs e.1 && (e.0 == p)) (enumerate_from n listed)
has_positions p n [] qs = refl
has_positions p n (x ∷ xs) qs =
    ap (has p) (map_cond n x (filter (λ (e : ℕ × Text). is_among qs e.1) (enumerate_from (n + 1) xs)) (is_among qs x))
    ∙ has_cond p n (positions_from (n + 1) xs qs) (is_among qs x)
    ∙ ap (λ b. (is_among qs x && (n == p)) || b) (has_positions p (n + 1) xs qs)

-- ---- disjunctions, rearranged

or_shuffle : (a b c d : Bool) → ((a || b) || (c || d)) ≡ ((a || c) || (b || d))
or_shuffle true b c d = refl
or_shuffle false true true d = refl
or_shuffle false true false d = refl
or_shuffle false false c d = refl

any_or : {X : Type 0} (f g : X → Bool) (xs : List X) → list_any (λ x. f x || g x) xs ≡ (list_any f xs || list_any g xs)
any_or f g [] = refl
any_or f g (x ∷ xs) = ap (λ b. (f x || g x) || b) (any_or f g xs) ∙ or_shuffle (f x) (g x) (list_any f xs) (list_any g xs)

any_false : {X : Type 0} (xs : List X) → list_any (λ (x : X). false) xs ≡ false
any_false [] = refl
any_false (x ∷ xs) = any_false xs

any_any : {X Y : Type 0} (f : X → Y → Bool) (xs : List X) (ys : List Y) → list_any (λ x. list_any (f x) ys) xs ≡ list_any (λ y. list_any (λ x. f x y) xs) ys
any_any f [] ys = sym (any_false ys)
any_any f (x ∷ xs) ys = ap (λ b. list_any (f x) ys || b) (any_any f xs ys) ∙ sym (any_or (f x) (λ y. list_any (λ z. f z y) xs) ys)

any_agree : {X : Type 0} (f g : X → Bool) → ((x : X) → f x ≡ g x) → (xs : List X) → list_any f xs ≡ list_any g xs
any_agree f g same [] = refl
any_agree f g same (x ∷ xs) =
    let head = same x in
    let tail = any_agree f g same xs in
    λ i. head i || tail i

any_and : {X : Type 0} (f : X → Bool) (b : Bool) (xs : List X) → list_any (λ x. f x && b) xs ≡ (list_any f xs && b)
any_and f b [] = refl
any_and f b (x ∷ xs) = ap (λ c. (f x && b) || c) (any_and f b xs) ∙ distribute (f x) (list_any f xs) b
  where
    distribute : (a c b : Bool) → ((a && b) || (c && b)) ≡ ((a || c) && b)
    distribute true true true = refl
    distribute true true false = refl
    distribute true false true = refl
    distribute true false false = refl
    distribute false c b = refl

-- ---- one path among the listed ones

nowhere : (q : Text) (p n : ℕ) (xs : List Text) → AllByRecursion (λ y. bytes_eq q y ≡ false) xs
    → list_any (λ (e : ℕ × Text). bytes_eq q e.1 && (e.0 == p)) (enumerate_from n xs) ≡ false
nowhere q p n [] h = refl
nowhere q p n (x ∷ xs) h = ap (λ b. (b && (n == p)) || list_any (λ (e : ℕ × Text). bytes_eq q e.1 && (e.0 == p)) (enumerate_from (n + 1) xs)) h.0 ∙ nowhere q p (n + 1) xs h.1

apart_from : (q x : Text) (xs : List Text) → q ≡ x → AllByRecursion (λ y. bytes_eq x y ≡ false) xs → AllByRecursion (λ y. bytes_eq q y ≡ false) xs
apart_from q x xs e h = subst (λ t. AllByRecursion (λ y. bytes_eq t y ≡ false) xs) (sym e) h

or_false : (b : Bool) → (b || false) ≡ b
or_false true = refl
or_false false = refl

at_by : (q : Text) (p n : ℕ) (x : Text) (xs : List Text) (b : Bool) → bytes_eq q x ≡ b → IsDistinct bytes_eq (x ∷ xs)
    → list_any (λ (e : ℕ × Text). bytes_eq q e.1 && (e.0 == p)) (enumerate_from (n + 1) xs) ≡ is_at p (position_from (bytes_eq q) (n + 1) xs)
    → ((b && (n == p)) || list_any (λ (e : ℕ × Text). bytes_eq q e.1 && (e.0 == p)) (enumerate_from (n + 1) xs)) ≡ is_at p (cond b (Some n) (position_from (bytes_eq q) (n + 1) xs))
at_by q p n x xs true e once rest =
    ap (λ b. (n == p) || b) (nowhere q p (n + 1) xs (apart_from q x xs (same_text q x e) (IsDistinct-head bytes_eq x xs once))) ∙ or_false (n == p)
at_by q p n x xs false e once rest = rest

at_place : (q : Text) (p n : ℕ) (xs : List Text) → IsDistinct bytes_eq xs
    → list_any (λ (e : ℕ × Text). bytes_eq q e.1 && (e.0 == p)) (enumerate_from n xs) ≡ is_at p (position_from (bytes_eq q) n xs)
at_place q p n [] once = refl
at_place q p n (x ∷ xs) once = at_by q p n x xs (bytes_eq q x) refl once (at_place q p (n + 1) xs (IsDistinct-tail bytes_eq x xs once))

pub at_position : (q : Text) (p : ℕ) (xs : List Text) → IsDistinct bytes_eq xs
    → list_any (λ (e : ℕ × Text). bytes_eq q e.1 && (e.0 == p)) (enumerate_from 0 xs) ≡ is_at p (position (bytes_eq q) xs)
at_position q p xs once = at_place q p 0 xs once ∙ ap (is_at p) (sym (position_from-zero (bytes_eq q) xs))

among_map : (f : Text → Text) (ws : List Text) (x : Text) → is_among (map f ws) x ≡ list_any (λ w. bytes_eq (f w) x) ws
among_map f [] x = refl
among_map f (w ∷ ws) x = ap (λ b. bytes_eq (f w) x || b) (among_map f ws x)

-- the positions of listed paths among the dependencies' paths are those of the dependencies
pub same_positions : (f : Text → Text) (p : ℕ) (listed ws : List Text) → IsDistinct bytes_eq listed
    → has p (positions_of listed (map f ws)) ≡ has p (filter_map (λ w. position (bytes_eq (f w)) listed) ws)
same_positions f p listed ws once =
    has_positions p 0 listed (map f ws)
    ∙ any_agree (λ (e : ℕ × Text). is_among (map f ws) e.1 && (e.0 == p)) (λ (e : ℕ × Text). list_any (λ w. bytes_eq (f w) e.1 && (e.0 == p)) ws)
    (λ e. ap (λ b. b && (e.0 == p)) (among_map f ws e.1) ∙ sym (any_and (λ w. bytes_eq (f w) e.1) (e.0 == p) ws)) (enumerate_from 0 listed)
    ∙ any_any (λ (e : ℕ × Text) w. bytes_eq (f w) e.1 && (e.0 == p)) (enumerate_from 0 listed) ws
    ∙ any_agree (λ w. list_any (λ (e : ℕ × Text). bytes_eq (f w) e.1 && (e.0 == p)) (enumerate_from 0 listed)) (λ w. is_at p (position (bytes_eq (f w)) listed))
    (λ w. at_position (f w) p listed once) ws
    ∙ sym (has_filter_map (λ w. position (bytes_eq (f w)) listed) p ws)

-- an ascending list with these elements
pub set_is : (f : Text → Text) (listed ws : List Text) (ps : List ℕ) → IsDistinct bytes_eq listed → IsStrictlyIncreasing ps
    → ((p : ℕ) → has p ps ≡ has p (filter_map (λ w. position (bytes_eq (f w)) listed) ws)) → ps ≡ positions_of listed (map f ws)
set_is f listed ws ps once up same =
    same_rising 0 ps (positions_of listed (map f ws)) (rising_from 0 ps up (λ l. omega arith)) (positions_rising 0 listed (map f ws))
    (λ p. same p ∙ sym (same_positions f p listed ws once))
