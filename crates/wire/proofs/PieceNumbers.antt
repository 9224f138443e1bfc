-- The numbers of the pieces of a text.
use Rattle.std.proofs.Common.{◌≡◌, ℕ, zero, suc, ◌+◌, ◌-◌, ◌*◌, ◌<◌, ◌≤◌, Bool, true, false, cond, eqb, ltb, List, [], ◌∷◌, ◌++◌, length, get_or, map, take, drop, min, refl, sym, ap, subst, ◌∙◌, arith, inl, inr}
use Rattle.std.specs.Prelude.{All, filter, flat_map}
use Rattle.std.specs.List.{range_with_len}
use Rattle.std.proofs.lemmas.Bool.{cases_lt, eqb-false, eqb-true, le-ltb, lt-ltb}
use Rattle.std.proofs.lemmas.Grind.{flat_map-append}
use Rattle.std.proofs.lemmas.List.{append-nil, drop-drop, drop_min, length-drop, map-append, map-id, take_min}
use Rattle.std.proofs.lemmas.List.Elements.{filter-append}
use Rattle.std.proofs.lemmas.List.FromFn.{get_or-range_with_len, length-range_with_len, map-range_with_len_more}
use Rattle.std.proofs.Math.Seq.{take-add}
use Rattle.faults.specs.Bytes.{Text}
use Rattle.package_record.specs.Content.{most_bytes}
use Rattle.wire.specs.Pieces.{most_pieces, numbers_of, piece_size}

-- those of the first n numbers whose pieces begin within a text of this length
abbrev pub numbers_below : ℕ → ℕ → List ℕ
numbers_below n size = filter (λ k. ltb (piece_size * k) size) (range_with_len 0 n)

-- these are all, if n is the maximum number of pieces
pub numbers_all : (size : ℕ) → numbers_below most_pieces size ≡ numbers_of size
unfolding numbers_of
numbers_all size = refl

range_more : (n : ℕ) → range_with_len 0 (n + 1) ≡ range_with_len 0 n ++ n ∷ []
range_more n =
    sym (map-id (range_with_len 0 (n + 1))) ∙ map-range_with_len_more (λ (k : ℕ). k) 0 n n (omega arith) ∙ ap (λ (ks : List ℕ). ks ++ n ∷ []) (map-id (range_with_len 0 n))

below_more : (n size : ℕ) → numbers_below (n + 1) size ≡ numbers_below n size ++ cond (ltb (piece_size * n) size) (n ∷ []) []
below_more n size =
    ap (filter (λ k. ltb (piece_size * k) size)) (range_more n) ∙ filter-append (λ k. ltb (piece_size * k) size) (range_with_len 0 n) (n ∷ [])

-- one more piece
pub number_within : (n size : ℕ) → piece_size * n < size → numbers_below (n + 1) size ≡ numbers_below n size ++ n ∷ []
number_within n size within =
    below_more n size ∙ ap (λ (b : Bool). numbers_below n size ++ cond b (n ∷ []) []) (lt-ltb (piece_size * n) size within)

-- no more piece begins within the text
pub number_past : (n size : ℕ) → size ≤ piece_size * n → numbers_below (n + 1) size ≡ numbers_below n size
number_past n size past =
    below_more n size ∙ ap (λ (b : Bool). numbers_below n size ++ cond b (n ∷ []) []) (le-ltb (piece_size * n) size past) ∙ append-nil (numbers_below n size)

-- and likewise for more numbers
pub numbers_past : (m n size : ℕ) → size ≤ piece_size * n → numbers_below (n + m) size ≡ numbers_below n size
numbers_past zero n size past = ap (λ (k : ℕ). numbers_below k size) (let e : n + 0 ≡ n = omega arith in e)
numbers_past (suc m) n size past =
    ap (λ (k : ℕ). numbers_below k size) (let e : n + suc m ≡ (n + m) + 1 = omega arith in e)
    ∙ number_past (n + m) size (omega (arith, past)) ∙ numbers_past m n size past

-- The numbers are those from 0 on, and this is how many there are.
pub record AreFirst (n size count : ℕ) : Type 0 where
  pub same : numbers_below n size ≡ range_with_len 0 count
  pub most : count ≤ n
  pub within : (k : ℕ) → k < count → piece_size * k < size
  pub all : count < n → size ≤ piece_size * count

grown : (n size count : ℕ) → AreFirst n size count → piece_size * n < size → AreFirst (n + 1) size (n + 1)
grown n size count are within =
    let as_many : count ≡ n = elim (cases_lt count n) [
      | inl fewer ↦ let past : size ≤ piece_size * count = are.all fewer in absurd (omega arith)
      | inr enough ↦ omega (arith, are.most)
    ] in
    record {
      same = number_within n size within ∙ ap (λ (ks : List ℕ). ks ++ n ∷ []) (are.same ∙ ap (range_with_len 0) as_many) ∙ sym (range_more n);
      most = omega arith;
      within = λ k below. omega arith;
      all = λ below. absurd (omega arith);
    }

kept : (n size count : ℕ) → AreFirst n size count → size ≤ piece_size * n → AreFirst (n + 1) size count
kept n size count are past = record {
  same = number_past n size past ∙ are.same;
  most = omega (arith, are.most);
  within = are.within;
  all = λ below. elim (cases_lt count n) [
    | inl fewer ↦ are.all fewer
    | inr enough ↦ let as_many : count ≡ n = omega (arith, are.most) in omega (arith, past)
  ];
}

pub first_numbers : (n size : ℕ) → (count : ℕ) × AreFirst n size count
first_numbers zero size = (0, record { same = refl; most = omega arith; within = λ k below. absurd (omega arith); all = λ below. absurd (omega arith) })
first_numbers (suc n) size =
    let before = first_numbers n size in
    let one : n + 1 ≡ suc n = omega arith in
    elim (cases_lt (piece_size * n) size) [
      | inl within ↦ (n + 1, subst (λ (m : ℕ). AreFirst m size (n + 1)) one (grown n size before.0 before.1 within))
      | inr past ↦ (before.0, subst (λ (m : ℕ). AreFirst m size before.0) one (kept n size before.0 before.1 past))
    ]

-- The numbers of all pieces of a text of this length, and how many there are. They cover the whole
-- text, if it doesn't exceed the limit.
pub record AreAll (size count : ℕ) : Type 0 where
  pub same : numbers_of size ≡ range_with_len 0 count
  pub most : count ≤ most_pieces
  pub within : (k : ℕ) → k < count → piece_size * k < size
  pub enough : size ≤ most_bytes → size ≤ piece_size * count

pub all_numbers : (size : ℕ) → (count : ℕ) × AreAll size count
all_numbers size =
    let first = first_numbers most_pieces size in
    let count = first.0 in
    let are = first.1 in
    let most : count ≤ 128 = are.most in (
      count,
      record {
        same = sym (numbers_all size) ∙ are.same;
        most = most;
        within = are.within;
        enough = λ (few : size ≤ 4194304). elim (cases_lt count 128) [
          | inl fewer ↦ are.all fewer
          | inr all ↦ omega arith
        ];
      },
    )

-- the first numbers are each at its own place
pub at_place : (count k d : ℕ) → k < count → get_or (range_with_len 0 count) k d ≡ k
at_place count k d below = omega (arith, get_or-range_with_len 0 count k d below)

-- what holds of each of the first numbers
pub all_first : (P : ℕ → Type 0) (count : ℕ) → ((k : ℕ) → k < count → P k) → All P (range_with_len 0 count)
all_first P count each k d below =
    let within : k < count = omega (arith, length-range_with_len 0 count) in
    subst P (sym (at_place count k d within)) (each k within)

-- ---- bytes

-- the bytes of the piece of this number
abbrev pub cut_at : Text → ℕ → Text
cut_at text k = take piece_size (drop (piece_size * k) text)

-- the bytes of the first pieces are a prefix of the text
pub first_bytes : (text : Text) (n : ℕ) → flat_map (cut_at text) (range_with_len 0 n) ≡ take (piece_size * n) text
first_bytes text zero = refl
first_bytes text (suc n) =
    let one : suc n ≡ n + 1 = omega arith in
    let places : piece_size * n + piece_size ≡ piece_size * suc n = omega arith in
    ap (λ (m : ℕ). flat_map (cut_at text) (range_with_len 0 m)) one
    ∙ ap (flat_map (cut_at text)) (range_more n)
    ∙ flat_map-append (cut_at text) (range_with_len 0 n) (n ∷ [])
    ∙ ap (λ (t : Text). t ++ flat_map (cut_at text) (n ∷ [])) (first_bytes text n)
    ∙ ap (λ (t : Text). take (piece_size * n) text ++ t) (append-nil (cut_at text n))
    ∙ sym (take-add (piece_size * n) piece_size text)
    ∙ ap (λ (m : ℕ). take m text) places

-- ---- going on to the next number

pub flat_within : (f : ℕ → Text) (n size : ℕ) (before after : Text) → before ≡ flat_map f (numbers_below n size) → piece_size * n < size → after ≡ before ++ f n
    → after ≡ flat_map f (numbers_below (n + 1) size)
flat_within f n size before after so_far within more =
    more ∙ ap (λ (t : Text). t ++ f n) so_far
    ∙ ap (λ (t : Text). flat_map f (numbers_below n size) ++ t) (sym (append-nil (f n)))
    ∙ sym (flat_map-append f (numbers_below n size) (n ∷ []))
    ∙ ap (flat_map f) (sym (number_within n size within))

pub flat_past : (f : ℕ → Text) (n size : ℕ) (before : Text) → before ≡ flat_map f (numbers_below n size) → size ≤ piece_size * n
    → before ≡ flat_map f (numbers_below (n + 1) size)
flat_past f n size before so_far past = so_far ∙ ap (flat_map f) (sym (number_past n size past))

pub map_within : {X : Type 0} (f : ℕ → X) (n size : ℕ) (before after : List X) → before ≡ map f (numbers_below n size) → piece_size * n < size → after ≡ before ++ f n ∷ []
    → after ≡ map f (numbers_below (n + 1) size)
map_within f n size before after so_far within more =
    more ∙ ap (λ (xs : List _). xs ++ f n ∷ []) so_far
    ∙ sym (map-append f (numbers_below n size) (n ∷ []))
    ∙ ap (map f) (sym (number_within n size within))

-- ---- the rest of a text

pub left_more : (text rest behind : Text) (n m : ℕ) → rest ≡ drop (piece_size * n) text → m ≡ min (length rest) piece_size → behind ≡ drop m rest
    → behind ≡ drop (piece_size * (n + 1)) text
left_more text rest behind n m left few is =
    is ∙ ap (λ (k : ℕ). drop k rest) (few ∙ (let e : min (length rest) piece_size ≡ min piece_size (length rest) = omega arith in e))
    ∙ drop_min piece_size rest ∙ ap (drop piece_size) left
    ∙ drop-drop piece_size (piece_size * n) text ∙ ap (λ (k : ℕ). drop k text) (let e : piece_size * n + piece_size ≡ piece_size * (n + 1) = omega arith in e)

pub cut_is : (text rest front : Text) (n m : ℕ) → rest ≡ drop (piece_size * n) text → m ≡ min (length rest) piece_size → front ≡ take m rest → front ≡ cut_at text n
cut_is text rest front n m left few is =
    is ∙ ap (λ (k : ℕ). take k rest) (few ∙ (let e : min (length rest) piece_size ≡ min piece_size (length rest) = omega arith in e))
    ∙ take_min piece_size rest ∙ ap (take piece_size) left

-- the rest is not empty if and only if the next piece begins within the text
pub left_within : (text rest : Text) (n : ℕ) → rest ≡ drop (piece_size * n) text → eqb (length rest) 0 ≡ false → piece_size * n < length text
left_within text rest n left some = omega (arith, eqb-false (length rest) 0 some, ap length left, length-drop (piece_size * n) text)

pub left_past : (text rest : Text) (n : ℕ) → rest ≡ drop (piece_size * n) text → eqb (length rest) 0 ≡ true → length text ≤ piece_size * n
left_past text rest n left none = omega (arith, eqb-true (length rest) 0 none, ap length left, length-drop (piece_size * n) text)

-- if the rest is empty, these are all numbers
pub numbers_end : (n size : ℕ) → n ≤ most_pieces → size ≤ piece_size * n → numbers_below n size ≡ numbers_of size
numbers_end n size most past =
    sym (numbers_past (most_pieces - n) n size past)
    ∙ ap (λ (k : ℕ). numbers_below k size) (let few : n ≤ 128 = most in let e : n + (128 - n) ≡ 128 = omega arith in e)
    ∙ numbers_all size
