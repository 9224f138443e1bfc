-- The counts of letters, one letter after another.
use Rattle.std.proofs.Common.{◌≡◌, ◌+◌, ◌<◌, ◌≤◌, ◌==◌, ℕ, suc, List, [], ◌∷◌, cond, get_or, length, take, refl, ap, subst, arith}
use Rattle.std.proofs.lemmas.List.Sums.{count_by-le-length, sum_by_more, sum_by_more_le}
use Rattle.std.specs.List.{AllZip, range_with_len}
use Rattle.engine.specs.State.{count_of, counts_of, index_of}
use Rattle.engine.specs.declared.Counts.{Counts}
use Rattle.engine.specs.declared.Letter.{Letter}
use Rattle.engine.specs.declared.Letter.TheVariants.{T, Q, B, I, Ignored}
use Rattle.engine.specs.shared.Shown.{same_letter, tally}
use Rattle.engine.proofs.Shown.{tally-counts}

pub counts-none : record { i = 0; b = 0; q = 0; t = 0; ignored = 0 } ≡ counts_of []
counts-none = refl

module _ (letters : List Letter) (i : ℕ) (within : i < length letters) where
  -- one more letter
  pub counts-more : (letter : Letter) (before after : Counts) → letter ≡ get_or letters i Ignored → before ≡ counts_of (take i letters)
      → ((l : Letter) → tally after l ≡ tally before l + same_letter letter l) → after ≡ counts_of (take (i + 1) letters)
  counts-more letter before after here are added =
      λ k. record { i = (same I) k; b = (same B) k; q = (same Q) k; t = (same T) k; ignored = (same Ignored) k }
    where
      same : (l : Letter) → tally after l ≡ count_of l (take (i + 1) letters)
      same l =
          let more = sum_by_more (λ x. cond (index_of x == index_of l) 1 0) letters i Ignored within in
          omega (arith, more, added l, ap (λ c. tally c l) are, tally-counts (take i letters) l, ap (λ x. same_letter x l) here)

  -- the next count doesn't overflow
  pub counts-few : (letter : Letter) (before : Counts) → before ≡ counts_of (take i letters) → tally before letter ≤ length letters
  counts-few letter before are =
      let part = sum_by_more_le (λ x. cond (index_of x == index_of letter) 1 0) letters i Ignored within in
      let all = count_by-le-length (λ x. index_of x == index_of letter) letters in
      omega (arith, part, all, ap (λ c. tally c letter) are, tally-counts (take i letters) letter)

-- letters by position, paired with all positions
pub zip_from : (R : ℕ → Letter → Type 0) (a : ℕ) (ls : List Letter) → ((k : ℕ) → k < length ls → R (a + k) (get_or ls k Ignored))
    → AllZip R (range_with_len a (length ls)) ls
zip_from R a [] each = tt
zip_from R a (l ∷ ls) each = (
  let e : a + 0 ≡ a = omega arith in subst (λ (x : ℕ). R x l) e (each 0 (omega arith)),
  zip_from R (a + 1) ls (λ k within. let e : a + suc k ≡ a + 1 + k = omega arith in subst (λ (x : ℕ). R x (get_or ls k Ignored)) e (each (suc k) (omega arith))),
)
