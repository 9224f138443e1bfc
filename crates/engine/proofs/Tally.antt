-- The counts of letters that are counted one after another.
use Rattle.std.proofs.Common.{◌≡◌, ◌+◌, ◌==◌, ℕ, suc, List, [], ◌∷◌, length, cond, refl, sym, ap, ◌∙◌, arith}
use Rattle.std.specs.List.{AllZip, range_with_len}
use Rattle.std.proofs.lemmas.List.FromFn.{length-range_with_len}
use Rattle.std.proofs.lemmas.List.Sums.{sum_by-cons}
use Rattle.engine.specs.State.{HasLetter, State, count_of, counts_of, index_of, total_of}
use Rattle.engine.specs.declared.Counts.{Counts}
use Rattle.engine.specs.declared.Letter.{Letter}
use Rattle.engine.specs.declared.Letter.TheVariants.{T, Q, B, I, Ignored}

count_of-cons : (letter l : Letter) (letters : List Letter) → count_of letter (l ∷ letters) ≡ cond (index_of l == index_of letter) 1 0 + count_of letter letters
count_of-cons letter l letters = sum_by-cons (λ x. cond (index_of x == index_of letter) 1 0) l letters

-- each letter is counted once
pub total_of-counts : (letters : List Letter) → total_of (counts_of letters) ≡ length letters
total_of-counts [] = refl
total_of-counts (T ∷ ls) = omega (arith, total_of-counts ls, count_of-cons I T ls, count_of-cons B T ls, count_of-cons Q T ls, count_of-cons T T ls, count_of-cons Ignored T ls)
total_of-counts (Q ∷ ls) = omega (arith, total_of-counts ls, count_of-cons I Q ls, count_of-cons B Q ls, count_of-cons Q Q ls, count_of-cons T Q ls, count_of-cons Ignored Q ls)
total_of-counts (B ∷ ls) = omega (arith, total_of-counts ls, count_of-cons I B ls, count_of-cons B B ls, count_of-cons Q B ls, count_of-cons T B ls, count_of-cons Ignored B ls)
total_of-counts (I ∷ ls) = omega (arith, total_of-counts ls, count_of-cons I I ls, count_of-cons B I ls, count_of-cons Q I ls, count_of-cons T I ls, count_of-cons Ignored I ls)
total_of-counts (Ignored ∷ ls) = omega (arith, total_of-counts ls, count_of-cons I Ignored ls, count_of-cons B Ignored ls, count_of-cons Q Ignored ls, count_of-cons T Ignored ls, count_of-cons Ignored Ignored ls)

length_all_zip_of : {A C : Type 0} (R : A → C → Type 0) (xs : List A) (ys : List C) → AllZip R xs ys → length xs ≡ length ys
length_all_zip_of R [] [] all = refl
length_all_zip_of R [] (y ∷ ys) all = absurd all
length_all_zip_of R (x ∷ xs) [] all = absurd all
length_all_zip_of R (x ∷ xs) (y ∷ ys) all = ap suc (length_all_zip_of R xs ys all.1)

-- ---- the letters of the first n packages

abbrev pub HasCounted : State → ℕ → Counts → Type 0
HasCounted s n counts = (letters : List Letter) × AllZip (HasLetter s) (range_with_len 0 n) letters × (counts ≡ counts_of letters)

pub HasCounted-total : (s : State) (n : ℕ) (counts : Counts) → HasCounted s n counts → total_of counts ≡ n
HasCounted-total s n counts (letters, are, is) =
    ap total_of is ∙ total_of-counts letters ∙ sym (length_all_zip_of (HasLetter s) (range_with_len 0 n) letters are) ∙ length-range_with_len 0 n
