-- Those of the first numbers that pass a test.
use Rattle.std.proofs.Common.{◌≡◌, ◌≤◌, ◌+◌, ◌++◌, ℕ, Bool, true, false, List, [], ◌∷◌, arith}
use Rattle.std.proofs.Common.{filter, length, sym, ap, ◌∙◌}
use Rattle.std.specs.Prelude.{cond}
use Rattle.std.specs.List.{range_with_len}
use Rattle.std.proofs.lemmas.List.{append-nil}
use Rattle.std.proofs.lemmas.List.FromFn.{length-range_with_len}
use Rattle.std.proofs.lemmas.List.Sums.{count_by-le-length, length-filter}
use Rattle.engine.proofs.Lists.{filter_next}

module _ (P : ℕ → Bool) (n : ℕ) (xs : List ℕ) (are : xs ≡ filter P (range_with_len 0 n)) where
  -- there are at most n of them
  pub no_more : length xs ≤ n
  no_more =
      let same = ap length are in
      let kept = length-filter P (range_with_len 0 n) in
      let few = count_by-le-length P (range_with_len 0 n) in
      let all = length-range_with_len 0 n in
      omega (arith, same, kept, few, all)

  -- the next number, if it passes
  pub one_more_kept : P n ≡ true → xs ++ n ∷ [] ≡ filter P (range_with_len 0 (n + 1))
  one_more_kept passes =
      ap (λ ys. ys ++ n ∷ []) are
      ∙ sym (filter_next P n
      ∙ ap (λ b. filter P (range_with_len 0 n) ++ cond b (n ∷ []) []) passes)

  -- the next number, if it doesn't pass
  pub none_more_kept : P n ≡ false → xs ≡ filter P (range_with_len 0 (n + 1))
  none_more_kept fails =
      are
      ∙ sym (filter_next P n
      ∙ (ap (λ b. filter P (range_with_len 0 n) ++ cond b (n ∷ []) []) fails
      ∙ append-nil (filter P (range_with_len 0 n))))
