-- Groups are counted path by path.
use Rattle.std.proofs.Common.{◌≡◌, ◌+◌, ◌++◌, ◌||◌, ℕ, suc, Bool, true, false, not, cond, List, [], ◌∷◌, Option, Some, refl, sym, ap, subst, ◌∙◌, arith, unwrap_or, if◌then◌else◌}
use Rattle.std.specs.List.{list_any, position_or_len}
use Rattle.std.specs.Map.{keys_of, lookup}
use Rattle.std.specs.Str.{bytes_eq}
use Rattle.std.proofs.lemmas.List.Sums.{sum_by-append, sum_by-cons}
use Rattle.indexmap.specs.IndexMap.{insert_entry}
use Rattle.indexmap.specs.IndexSet.{insert_key}
use Rattle.faults.specs.Bytes.{Text}
use Rattle.listing.specs.inside.Groups.{AreGroups, AreSizes, size_in}
use Rattle.listing.specs.inside.Parts.{Grows, IsNumberOf}
use Rattle.listing.proofs.Numbers.{grows_refl, numbers_push, numbers_stay}
use Rattle.listing.proofs.Settings.{in_order-push, same_text}

-- ---- keys after one more insertion

-- a key that isn't the first is inserted among the others
insert_key-other : (k x : Text) (xs : List Text) → bytes_eq k x ≡ false → insert_key bytes_eq (x ∷ xs) k ≡ x ∷ insert_key bytes_eq xs k
insert_key-other k x xs other = by (list_any (bytes_eq k) xs)
  where
    by : (b : Bool) → (if (bytes_eq k x || b) then x ∷ xs else (x ∷ xs) ++ k ∷ []) ≡ x ∷ (if b then xs else xs ++ k ∷ [])
    by true = ap (λ c. if (c || true) then x ∷ xs else (x ∷ xs) ++ k ∷ []) other
    by false = ap (λ c. if (c || false) then x ∷ xs else (x ∷ xs) ++ k ∷ []) other

insert_key-same : (k x : Text) (xs : List Text) → bytes_eq k x ≡ true → insert_key bytes_eq (x ∷ xs) k ≡ x ∷ xs
insert_key-same k x xs same = ap (λ c. if (c || list_any (bytes_eq k) xs) then x ∷ xs else (x ∷ xs) ++ k ∷ []) same

pub keys-insert : (es : List (Text × ℕ)) (k : Text) (v : ℕ) → keys_of (insert_entry bytes_eq es k v) ≡ insert_key bytes_eq (keys_of es) k
keys-insert [] k v = refl
keys-insert (e ∷ es) k v = by (bytes_eq k e.0) refl (keys-insert es k v)
  where
    by : (a : Bool) → bytes_eq k e.0 ≡ a → keys_of (insert_entry bytes_eq es k v) ≡ insert_key bytes_eq (keys_of es) k
        → keys_of (if a then (e.0, v) ∷ es else e ∷ insert_entry bytes_eq es k v) ≡ insert_key bytes_eq (e.0 ∷ keys_of es) k
    by true same rest = sym (insert_key-same k e.0 (keys_of es) same)
    by false other rest = ap (λ ks. e.0 ∷ ks) rest ∙ sym (insert_key-other k e.0 (keys_of es) other)

-- the index of a key after it is inserted
pub number-insert : (ks : List Text) (k : Text) → IsNumberOf (insert_key bytes_eq ks k) (position_or_len (bytes_eq k) ks) k
number-insert [] k = (omega arith, refl)
number-insert (x ∷ xs) k = by (bytes_eq k x) refl (number-insert xs k)
  where
    by : (a : Bool) → bytes_eq k x ≡ a → IsNumberOf (insert_key bytes_eq xs k) (position_or_len (bytes_eq k) xs) k
        → IsNumberOf (insert_key bytes_eq (x ∷ xs) k) (cond (not a) (1 + position_or_len (bytes_eq k) xs) 0) k
    by true same rest =
        subst (λ ks. IsNumberOf ks 0 k) (sym (insert_key-same k x xs same)) (omega arith, sym (same_text k x same))
    by false other rest =
        let next : suc (position_or_len (bytes_eq k) xs) ≡ 1 + position_or_len (bytes_eq k) xs = omega arith in
        subst (λ ks. IsNumberOf ks (1 + position_or_len (bytes_eq k) xs) k) (sym (insert_key-other k x xs other))
        (subst (λ n. IsNumberOf (x ∷ insert_key bytes_eq xs k) n k) next (omega (arith, rest.0), rest.1))

pub grows-insert : (ks : List Text) (k : Text) → Grows ks (insert_key bytes_eq ks k)
grows-insert ks k = by (list_any (bytes_eq k) ks)
  where
    by : (b : Bool) → Grows ks (if b then ks else ks ++ k ∷ [])
    by true = grows_refl ks
    by false = record { more = k ∷ []; is = refl }

-- ---- groups with one more name

size-more : (names : List Text) (x group : Text) → size_in (names ++ x ∷ []) group ≡ size_in names group + cond (bytes_eq x group) 1 0
size-more names x group =
    let each : Text → ℕ = λ name. cond (bytes_eq name group) 1 0 in
    omega (arith, sum_by-append each names (x ∷ []), sum_by-cons each x [])

-- the stored size of a group after x is counted
pub sized_more : (names : List Text) (x group : Text) (o : Option ℕ) (size : ℕ) → unwrap_or o 0 ≡ size_in names group → size ≡ size_in names x + 1
    → unwrap_or (cond (bytes_eq x group) (Some size) o) 0 ≡ size_in (names ++ x ∷ []) group
sized_more names x group o size was is = by (bytes_eq x group) refl
  where
    by : (b : Bool) → bytes_eq x group ≡ b → unwrap_or (cond b (Some size) o) 0 ≡ size_in (names ++ x ∷ []) group
    by true same =
        let more = size-more names x group in
        let one : cond (bytes_eq x group) 1 0 ≡ 1 = ap (λ b. cond b 1 0) same in
        let here : size_in names x ≡ size_in names group = ap (size_in names) (same_text x group same) in
        is ∙ ap (λ n. n + 1) here ∙ ap (λ n. size_in names group + n) (sym one) ∙ sym more
    by false other =
        let more = size-more names x group in
        let none : cond (bytes_eq x group) 1 0 ≡ 0 = ap (λ b. cond b 1 0) other in
        let kept : size_in names group ≡ size_in names group + 0 = omega arith in
        was ∙ kept ∙ ap (λ n. size_in names group + n) (sym none) ∙ sym more

pub sizes_more : (names : List Text) (x : Text) (old new : List (Text × ℕ)) (size : ℕ) → AreSizes names old → new ≡ insert_entry bytes_eq old x size → size ≡ size_in names x + 1
    → ((group : Text) → lookup (bytes_eq group) new ≡ cond (bytes_eq x group) (Some size) (lookup (bytes_eq group) old)) → AreSizes (names ++ x ∷ []) new
sizes_more names x old new size h entries is looked = record {
  groups = ap keys_of entries ∙ keys-insert old x size ∙ ap (λ ks. insert_key bytes_eq ks x) h.groups ∙ sym (in_order-push names x);
  counts = λ group. ap (λ o. unwrap_or o 0) (looked group) ∙ sized_more names x group (lookup (bytes_eq group) old) size (h.counts group) is;
}

pub groups_none : (es : List (Text × ℕ)) → es ≡ [] → AreGroups [] es []
groups_none es none = subst (λ e. AreGroups [] e []) (sym none) (record {
  counted = record { groups = refl; counts = λ group. refl };
  placed = record { within = λ k d l. absurd (omega (arith, l)); are = refl };
})

pub groups_more : (names : List Text) (x : Text) (old new : List (Text × ℕ)) (places : List ℕ) (place : ℕ) → AreGroups names old places → AreSizes (names ++ x ∷ []) new
    → IsNumberOf (keys_of new) place x → Grows (keys_of old) (keys_of new) → AreGroups (names ++ x ∷ []) new (places ++ place ∷ [])
groups_more names x old new places place h counted number grows = record {
  counted = counted;
  placed = numbers_push (keys_of new) places names place x (numbers_stay (keys_of old) (keys_of new) places names grows h.placed) number;
}
