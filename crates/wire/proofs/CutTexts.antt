-- A text that is cut while it is written is cut into its pieces.
use Rattle.std.proofs.Common.{◌≡◌, ℕ, zero, suc, ◌+◌, ◌*◌, ◌<◌, ◌≤◌, List, [], ◌∷◌, ◌++◌, length, get_or, map, take, drop, refl, sym, ap, subst, ◌∙◌, append_assoc, arith, inl, inr}
use Rattle.std.specs.Prelude.{All, flat_map}
use Rattle.std.specs.List.{range_with_len}
use Rattle.std.proofs.lemmas.Bool.{cases_lt}
use Rattle.std.proofs.lemmas.List.{append-nil, ext_get_or, length-append, take_all}
use Rattle.std.proofs.lemmas.List.FromFn.{get_or-map-range_with_len, length-map-range_with_len}
use Rattle.std.proofs.Math.Seq.{drop-append-add, drop-append_seam, take-append_seam}
use Rattle.faults.specs.Bytes.{Text}
use Rattle.package_record.specs.Content.{most_bytes}
use Rattle.wire.specs.Pieces.{most_pieces, numbers_of, piece_size}
use Rattle.wire.specs.inside.Cuts.{AreCuts, cuts_of}
use Rattle.wire.proofs.PieceNumbers.{all_numbers, cut_at}

-- all pieces, concatenated
abbrev pub joined : List Text → Text
joined pieces = flat_map (λ bytes. bytes) pieces

abbrev pub AreFull : List Text → Type 0
AreFull pieces = All (λ bytes. length bytes ≡ piece_size) pieces

full_first : (x : Text) (xs : List Text) → AreFull (x ∷ xs) → length x ≡ piece_size
full_first x xs full = full 0 x (omega arith)

full_rest : (x : Text) (xs : List Text) → AreFull (x ∷ xs) → AreFull xs
full_rest x xs full = λ k d below. full (suc k) d (omega arith)

-- the number of bytes of full pieces
pub full_length : (xs : List Text) → AreFull xs → length (joined xs) ≡ piece_size * length xs
full_length [] full = refl
full_length (x ∷ xs) full = omega (arith, length-append x (joined xs), full_first x xs full, full_length xs (full_rest x xs full))

-- each full piece is cut from the text
pub cut_full : (xs : List Text) (last : Text) (k : ℕ) → AreFull xs → k < length xs → cut_at (joined xs ++ last) k ≡ get_or xs k []
cut_full [] last k full below = absurd (omega arith)
cut_full (x ∷ xs) last zero full below =
    ap (take piece_size) (append_assoc x (joined xs) last)
    ∙ ap (λ (n : ℕ). take n (x ++ (joined xs ++ last))) (sym (full_first x xs full))
    ∙ take-append_seam x (joined xs ++ last)
cut_full (x ∷ xs) last (suc k) full below =
    let size = full_first x xs full in
    let place : piece_size * suc k ≡ length x + piece_size * k = omega (arith, size) in
    ap (λ (n : ℕ). take piece_size (drop n ((x ++ joined xs) ++ last))) place
    ∙ ap (λ (t : Text). take piece_size (drop (length x + piece_size * k) t)) (append_assoc x (joined xs) last)
    ∙ ap (take piece_size) (drop-append-add x (joined xs ++ last) (piece_size * k))
    ∙ cut_full xs last k (full_rest x xs full) (omega arith)

-- and so are the bytes after them
pub cut_last : (xs : List Text) (last : Text) → AreFull xs → length last ≤ piece_size → cut_at (joined xs ++ last) (length xs) ≡ last
cut_last xs last full few =
    ap (λ (n : ℕ). take piece_size (drop n (joined xs ++ last))) (sym (full_length xs full))
    ∙ ap (take piece_size) (drop-append_seam (joined xs) last)
    ∙ take_all piece_size last few

-- the numbers of the pieces of a text of this length
pub numbers_are : (size count : ℕ) → size ≤ most_bytes → size ≤ piece_size * count → piece_size * count < size + piece_size → numbers_of size ≡ range_with_len 0 count
numbers_are size count few enough most =
    let numbers = all_numbers size in
    let are = numbers.1 in
    let all = are.enough few in
    let same : numbers.0 ≡ count = elim (cases_lt numbers.0 count) [
      | inl fewer ↦ absurd (omega (arith, all, most))
      | inr as_many ↦ elim (cases_lt count numbers.0) [
        | inl more ↦ let within : piece_size * count < size = are.within count more in absurd (omega (arith, enough))
        | inr no_more ↦ omega arith
      ]
    ] in
    are.same ∙ ap (range_with_len 0) same

-- a list whose items are cut from the text one by one
cuts_by : (text : Text) (ys : List Text) → numbers_of (length text) ≡ range_with_len 0 (length ys) → ((k : ℕ) → k < length ys → cut_at text k ≡ get_or ys k []) → ys ≡ cuts_of text
cuts_by text ys numbers each =
    let many = length-map-range_with_len (cut_at text) 0 (length ys) in
    ext_get_or [] ys (map (cut_at text) (range_with_len 0 (length ys))) (sym many)
    (λ k below. sym (get_or-map-range_with_len (cut_at text) 0 (length ys) k k [] below (omega arith) ∙ each k below))
    ∙ ap (map (cut_at text)) (sym numbers)

-- full pieces, with nothing after them
pub cuts_full : (xs : List Text) → AreFull xs → length (joined xs ++ []) ≤ most_bytes → xs ≡ cuts_of (joined xs ++ [])
cuts_full xs full few =
    let size : length (joined xs ++ []) ≡ piece_size * length xs = length-append (joined xs) [] ∙ omega (arith, full_length xs full) in
    cuts_by (joined xs ++ []) xs (numbers_are (length (joined xs ++ [])) (length xs) few (omega (arith, size)) (omega (arith, size)))
    (λ k below. cut_full xs [] k full below)

pub are_cuts_full : (xs : List Text) → AreFull xs → length (joined xs) ≤ most_bytes → AreCuts xs
are_cuts_full xs full few =
    subst (λ (t : Text). xs ≡ cuts_of t) (append-nil (joined xs))
    (cuts_full xs full (subst (λ (t : Text). length t ≤ most_bytes) (sym (append-nil (joined xs))) few))

-- the item after a list
get_or-behind : {X : Type 0} (xs : List X) (x d : X) (k : ℕ) → length xs ≡ k → get_or (xs ++ x ∷ []) k d ≡ x
get_or-behind [] x d zero same = refl
get_or-behind [] x d (suc k) same = absurd (omega arith)
get_or-behind (y ∷ ys) x d zero same = absurd (omega arith)
get_or-behind (y ∷ ys) x d (suc k) same = get_or-behind ys x d k (omega arith)

get_or-before : {X : Type 0} (xs ys : List X) (d : X) (k : ℕ) → k < length xs → get_or (xs ++ ys) k d ≡ get_or xs k d
get_or-before [] ys d k below = absurd (omega arith)
get_or-before (x ∷ xs) ys d zero below = refl
get_or-before (x ∷ xs) ys d (suc k) below = get_or-before xs ys d k (omega arith)

-- full pieces, with some bytes after them
pub cuts_last : (xs : List Text) (last : Text) → AreFull xs → 1 ≤ length last → length last < piece_size → length (joined xs ++ last) ≤ most_bytes
    → xs ++ last ∷ [] ≡ cuts_of (joined xs ++ last)
cuts_last xs last full some less few =
    let size : length (joined xs ++ last) ≡ piece_size * length xs + length last = length-append (joined xs) last ∙ omega (arith, full_length xs full) in
    let many : length (xs ++ last ∷ []) ≡ length xs + 1 = length-append xs (last ∷ []) in
    let enough : length (joined xs ++ last) ≤ piece_size * length (xs ++ last ∷ []) = omega (arith, size, many, less) in
    let most : piece_size * length (xs ++ last ∷ []) < length (joined xs ++ last) + piece_size = omega (arith, size, many, some) in
    cuts_by (joined xs ++ last) (xs ++ last ∷ []) (numbers_are (length (joined xs ++ last)) (length (xs ++ last ∷ [])) few enough most)
    (λ k below. elim (cases_lt k (length xs)) [
      | inl within ↦ cut_full xs last k full within ∙ sym (get_or-before xs (last ∷ []) [] k within)
      | inr past ↦
          let here : length xs ≡ k = omega (arith, many) in
          ap (cut_at (joined xs ++ last)) (sym here) ∙ cut_last xs last full (omega (arith, less)) ∙ sym (get_or-behind xs last [] k here)
    ])

-- one more full piece
pub joined_more : (xs : List Text) (x : Text) → joined (xs ++ x ∷ []) ≡ joined xs ++ x
joined_more [] x = append-nil x
joined_more (y ∷ ys) x = ap (λ (t : Text). y ++ t) (joined_more ys x) ∙ sym (append_assoc y (joined ys) x)

pub are_cuts_last : (xs : List Text) (last : Text) → AreFull xs → 1 ≤ length last → length last < piece_size → length (joined xs ++ last) ≤ most_bytes
    → AreCuts (xs ++ last ∷ [])
are_cuts_last xs last full some less few = cuts_last xs last full some less few ∙ ap cuts_of (sym (joined_more xs last))

-- ---- from the pieces back to the text

-- the numbers are those of the pieces
numbers_again : (pieces : List Text) → AreCuts pieces → (numbers_of (length (joined pieces)) ≡ range_with_len 0 (length pieces)) × (length pieces ≤ most_pieces)
numbers_again pieces cuts =
    let text = joined pieces in
    let numbers = all_numbers (length text) in
    let are = numbers.1 in
    let many : length pieces ≡ numbers.0 =
    ap length cuts ∙ ap (λ (ks : List ℕ). length (map (cut_at text) ks)) are.same ∙ length-map-range_with_len (cut_at text) 0 numbers.0 in (
      are.same ∙ ap (range_with_len 0) (sym many),
      subst (λ (n : ℕ). n ≤ most_pieces) (sym many) are.most,
    )

-- each is cut from the text at its number
pub cut_here : (pieces : List Text) (p : Text) (k : ℕ) → AreCuts pieces → k < length pieces → p ≡ get_or pieces k p → (p ≡ cut_at (joined pieces) k) × (k < most_pieces)
cut_here pieces p k cuts below here =
    let numbers = numbers_again pieces cuts in
    let text = joined pieces in (
      here ∙ ap (λ (ps : List Text). get_or ps k p) cuts
          ∙ ap (λ (ks : List ℕ). get_or (map (cut_at text) ks) k p) numbers.0
          ∙ get_or-map-range_with_len (cut_at text) 0 (length pieces) k k p below (omega arith),
      omega (arith, numbers.1, below),
    )

-- what is made of each number from 0 on is made of all pieces
pub made_of_all : {X : Type 0} (f : ℕ → X) (pieces : List Text) (n : ℕ) (xs : List X) → AreCuts pieces → n ≡ length pieces → xs ≡ map f (range_with_len 0 n) → xs ≡ map f (numbers_of (length (joined pieces)))
made_of_all f pieces n xs cuts all so_far =
    so_far ∙ ap (λ (k : ℕ). map f (range_with_len 0 k)) all ∙ ap (map f) (sym (numbers_again pieces cuts).0)
