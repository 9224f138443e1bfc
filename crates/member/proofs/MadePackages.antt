-- Making packages, one after the other.
use Rattle.std.proofs.Common.{◌≡◌, ◌+◌, ◌<◌, ◌++◌, ℕ, suc, Bool, true, false, List, []}
use Rattle.std.proofs.Common.{◌∷◌, length, map, take, Option, None, Less, Equal, Greater, zero}
use Rattle.std.proofs.Common.{refl, sym, ap, ◌∙◌, arith}
use Rattle.std.specs.Prelude.{is_some}
use Rattle.std.specs.List.{list_all, slice_index_or}
use Rattle.std.specs.Ordering.{is_eq, is_lt}
use Rattle.std.specs.declared.cmp.Ordering.{Ordering}
use Rattle.std.specs.Str.{bytes_eq}
use Rattle.std.proofs.lemmas.Bool.{and_from, and_parts, true≢false}
use Rattle.std.proofs.lemmas.List.{map-append, take_more}
use Rattle.std.proofs.lemmas.List.Folds.{list_all-append}
use Rattle.std.proofs.lemmas.Map.Text.{is_eq-slice_cmp}
use Rattle.faults.specs.Bytes.{Text}
use Rattle.faults.specs.Pieces.{text_cmp}
use Rattle.claims.specs.Deps.{is_ascending}
use Rattle.engine.specs.Tree.{Tree, path_at}
use Rattle.member.specs.inside.Packages.{Made, made_at, have_files}
use Rattle.member.specs.inside.Packages.{FilesByPath}

-- what holds for all holds for each
at_each : (test : Text → Bool) (tree : Tree) (ps : List ℕ) (k : ℕ)
    → list_all test (map (path_at tree) ps) ≡ true → k < length ps
    → test (path_at tree (slice_index_or ps k 0)) ≡ true
at_each test tree [] k all lt = absurd (omega (arith, lt))
at_each test tree (p ∷ ps) zero all lt = (and_parts (test (path_at tree p)) _ all).0
at_each test tree (p ∷ ps) (suc k) all lt =
    at_each test tree ps k (and_parts (test (path_at tree p)) _ all).1 (omega (arith, lt))

-- a text below another differs from it
below_is_other : (t u : Text) → is_lt (text_cmp t u) ≡ true → bytes_eq t u ≡ false
below_is_other t u below = sym (is_eq-slice_cmp t u) ∙ by (text_cmp t u) below
  where
    by : (o : Ordering) → is_lt o ≡ true → is_eq o ≡ false
    by Less e = refl
    by Equal e = absurd (true≢false (sym e))
    by Greater e = refl

-- packages in order of path have different paths
pub apart : (tree : Tree) (ps : List ℕ) (i k : ℕ) → is_ascending (map (path_at tree) ps) ≡ true
    → i < k → k < length ps
    → bytes_eq (path_at tree (slice_index_or ps i 0)) (path_at tree (slice_index_or ps k 0))
    ≡ false
apart tree [] i k up before lt = absurd (omega (arith, lt))
apart tree (p ∷ ps) i zero up before lt = absurd (omega (arith, before))
apart tree (p ∷ ps) zero (suc k) up before lt =
    let first = and_parts (list_all (λ u. is_lt (text_cmp (path_at tree p) u))
    (map (path_at tree) ps)) _ up in
    below_is_other (path_at tree p) (path_at tree (slice_index_or ps k 0))
    (at_each (λ u. is_lt (text_cmp (path_at tree p) u)) tree ps k first.0 (omega (arith, lt)))
apart tree (p ∷ ps) (suc i) (suc k) up before lt =
    let first = and_parts (list_all (λ u. is_lt (text_cmp (path_at tree p) u))
    (map (path_at tree) ps)) _ up in
    apart tree ps i k first.1 (omega (arith, before)) (omega (arith, lt))

module _ (tree : Tree) (files : FilesByPath) (ps : List ℕ) (i : ℕ) (lt : i < length ps) where
  abbrev path : Text
  path = path_at tree (slice_index_or ps i 0)

  -- files are found for one more
  pub found_more : have_files tree files (take i ps) ≡ true → is_some (files path) ≡ true
      → have_files tree files (take (i + 1) ps) ≡ true
  found_more before here =
      ap (have_files tree files) (take_more ps i 0 lt)
      ∙ (list_all-append (λ p. is_some (files (path_at tree p))) (take i ps)
      (slice_index_or ps i 0 ∷ [])
      ∙ and_from _ _ before (and_from _ _ here refl))

  -- one more is made
  pub made_more : (made : List Made) (m : Made)
      → made ≡ map (made_at tree files) (take i ps)
      → m ≡ made_at tree files (slice_index_or ps i 0)
      → made ++ m ∷ [] ≡ map (made_at tree files) (take (i + 1) ps)
  made_more made m before here =
      (λ j. before j ++ here j ∷ [])
      ∙ (sym (map-append (made_at tree files) (take i ps) (slice_index_or ps i 0 ∷ []))
      ∙ ap (map (made_at tree files)) (sym (take_more ps i 0 lt)))

  -- if one has no files, not all have
  pub not_found : files path ≡ None → have_files tree files ps ≡ false
  not_found none = by (have_files tree files ps) refl
    where
      at_index : (qs : List ℕ) (k : ℕ) → have_files tree files qs ≡ true → k < length qs
          → is_some (files (path_at tree (slice_index_or qs k 0))) ≡ true
      at_index [] k all within = absurd (omega (arith, within))
      at_index (q ∷ qs) zero all within =
          (and_parts (is_some (files (path_at tree q))) _ all).0
      at_index (q ∷ qs) (suc k) all within =
          at_index qs k (and_parts (is_some (files (path_at tree q))) _ all).1
          (omega (arith, within))

      by : (b : Bool) → have_files tree files ps ≡ b → b ≡ false
      by false e = refl
      by true e =
          absurd (true≢false (sym (at_index ps i e lt) ∙ ap (λ (o : Option _). is_some o) none))
