-- clap's command after one more row of the table.
use Rattle.std.proofs.Common.{◌≡◌, ◌<◌, ◌+◌, ◌++◌, ◌∙◌, ℕ, List, [], ◌∷◌, ap, fold, get_or, length, map, sym, take}
use Rattle.std.proofs.lemmas.List.{map-append, take_more}
use Rattle.std.proofs.lemmas.List.Sums.{fold-append}

module _ {X R S : Type 0} (add : S → R → S) (of : X → R) (start now more : S) (rows : List X) (k : ℕ) (row none : X) where
  -- one row more is added by one step more
  pub one_more : k < length rows → row ≡ get_or rows k none → now ≡ fold add start (map of (take k rows)) → more ≡ add now (of row)
      → more ≡ fold add start (map of (take (k + 1) rows))
  one_more here is so_far added =
      let before : List R = map of (take k rows) in
      let taken : map of (take (k + 1) rows) ≡ before ++ of row ∷ [] =
      ap (map of) (take_more rows k none here) ∙ map-append of (take k rows) (get_or rows k none ∷ [])
      ∙ ap (λ (x : X). before ++ of x ∷ []) (sym is) in
      added ∙ ap (λ (s : S). add s (of row)) so_far ∙ sym (fold-append add start before (of row ∷ []))
      ∙ ap (fold add start) (sym taken)
