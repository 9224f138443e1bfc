-- Ascending texts.
use Rattle.std.proofs.Common.{◌≡◌, suc, ◌-◌, true, List, [], ◌∷◌, ◌++◌, length, Option, Some, Less, Equal, Greater, refl, sym, ap, ◌∙◌, arith}
use Rattle.std.specs.Prelude.{slice_get, map, option_map}
use Rattle.std.specs.Cmp.Lexicographic.{nat_list_cmp_total}
use Rattle.std.specs.List.{list_all}
use Rattle.std.specs.Ordering.{is_lt}
use Rattle.std.specs.declared.cmp.Ordering.{Ordering}
use Rattle.std.proofs.lemmas.Bool.{and_parts, and_from}
use Rattle.std.proofs.lemmas.List.Folds.{list_all-append}
use Rattle.faults.specs.Bytes.{Text}
use Rattle.faults.specs.Pieces.{text_cmp}
use Rattle.claims.specs.Deps.{is_ascending}
use Rattle.package_record.specs.Reading.{is_above, last_of}

less : (o : Ordering) → is_lt o ≡ true → o ≡ Less
less Less e = refl
less Equal e = absurd cc
less Greater e = absurd cc

below_trans : (s t u : Text) → is_lt (text_cmp s t) ≡ true → is_lt (text_cmp t u) ≡ true → is_lt (text_cmp s u) ≡ true
below_trans s t u a b = ap is_lt (nat_list_cmp_total.trans s t u (less (text_cmp s t) a) (less (text_cmp t u) b))

last_behind : {X : Type 0} (x y : X) (ys : List X) → last_of (x ∷ y ∷ ys) ≡ last_of (y ∷ ys)
last_behind x y ys =
    let a : suc (suc (length ys)) - 1 ≡ suc (length ys) = omega arith in
    let b : suc (length ys) - 1 ≡ length ys = omega arith in
    ap (slice_get (x ∷ y ∷ ys)) a ∙ sym (ap (slice_get (y ∷ ys)) b)

last_alone : {X : Type 0} (x : X) → last_of (x ∷ []) ≡ Some x
last_alone x = refl

pub last_mapped : {X : Type 0} (f : X → Text) (xs : List X) → option_map f (last_of xs) ≡ last_of (map f xs)
last_mapped f [] = refl
last_mapped f (x ∷ []) = refl
last_mapped f (x ∷ y ∷ ys) = ap (option_map f) (last_behind x y ys) ∙ last_mapped f (y ∷ ys) ∙ sym (last_behind (f x) (f y) (map f ys))

-- all are below a text that is above the last
all_below : (ts : List Text) (u : Text) → is_ascending ts ≡ true → is_above (last_of ts) u ≡ true → list_all (λ t. is_lt (text_cmp t u)) ts ≡ true
all_below [] u up above = refl
all_below (t ∷ []) u up above = and_from _ true above refl
all_below (t ∷ s ∷ ts) u up above =
    let parts = and_parts (list_all (λ v. is_lt (text_cmp t v)) (s ∷ ts)) (is_ascending (s ∷ ts)) up in
    let next = and_parts (is_lt (text_cmp t s)) (list_all (λ v. is_lt (text_cmp t v)) ts) parts.0 in
    let behind = all_below (s ∷ ts) u parts.1 (ap (λ (o : Option Text). is_above o u) (sym (last_behind t s ts)) ∙ above) in
    let here = and_parts (is_lt (text_cmp s u)) (list_all (λ v. is_lt (text_cmp v u)) ts) behind in
    and_from _ _ (below_trans t s u next.0 here.0) behind

-- with one added above the last, they ascend
pub ascending_more : (ts : List Text) (u : Text) → is_ascending ts ≡ true → is_above (last_of ts) u ≡ true → is_ascending (ts ++ u ∷ []) ≡ true
ascending_more ts u up above = push ts up (all_below ts u up above)
  where
    push : (ts : List Text) → is_ascending ts ≡ true → list_all (λ t. is_lt (text_cmp t u)) ts ≡ true → is_ascending (ts ++ u ∷ []) ≡ true
    push [] up below = refl
    push (t ∷ ts) up below =
        let parts = and_parts (list_all (λ v. is_lt (text_cmp t v)) ts) (is_ascending ts) up in
        let low = and_parts (is_lt (text_cmp t u)) (list_all (λ v. is_lt (text_cmp v u)) ts) below in
        and_from _ _ (list_all-append (λ v. is_lt (text_cmp t v)) ts (u ∷ []) ∙ and_from _ _ parts.0 (and_from _ true low.0 refl)) (push ts parts.1 low.1)

-- in ascending order, a text after others is above the last of them
pub ascending_above : (ts : List Text) (u : Text) (us : List Text) → is_ascending (ts ++ u ∷ us) ≡ true → is_above (last_of ts) u ≡ true
ascending_above [] u us up = refl
ascending_above (t ∷ []) u us up =
    let parts = and_parts (list_all (λ v. is_lt (text_cmp t v)) (u ∷ us)) (is_ascending (u ∷ us)) up in
    (and_parts (is_lt (text_cmp t u)) (list_all (λ v. is_lt (text_cmp t v)) us) parts.0).0
ascending_above (t ∷ s ∷ ts) u us up =
    let parts = and_parts (list_all (λ v. is_lt (text_cmp t v)) ((s ∷ ts) ++ u ∷ us)) (is_ascending ((s ∷ ts) ++ u ∷ us)) up in
    ap (λ (o : Option Text). is_above o u) (last_behind t s ts) ∙ ascending_above (s ∷ ts) u us parts.1
