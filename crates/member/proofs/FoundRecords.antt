-- The record of a path among those of a build, which ascend by path.
use Rattle.std.proofs.Common.{◌≡◌, ◌<◌, ◌≤◌, ◌∙◌, ℕ, zero, suc, Bool, true, false, List, [], ◌∷◌}
use Rattle.std.proofs.Common.{None, Some, Ok, Err, Less, Equal, Greater, arith}
use Rattle.std.proofs.Common.{length, refl, sym, ap, inl, inr}
use Rattle.std.specs.Prelude.{cond, find}
use Rattle.std.specs.Cmp.Lexicographic.{nat_list_cmp_total, texts_ties}
use Rattle.std.specs.List.{list_all, slice_index_or}
use Rattle.std.specs.List.Sorted.{IsBinarySearchResult, IsNonDecreasingBy}
use Rattle.std.specs.Ordering.{is_eq, is_lt, ordering_index, ordering_reverse}
use Rattle.std.specs.declared.cmp.Ordering.{Ordering}
use Rattle.std.specs.Str.{bytes_eq}
use Rattle.std.proofs.lemmas.Bool.{and_parts, cases_lt, true≢false}
use Rattle.faults.specs.Bytes.{Text}
use Rattle.faults.specs.Pieces.{text_cmp}
use Rattle.faults.proofs.Sets.{flipped, same_texts}
use Rattle.claims.specs.Deps.{is_ascending}
use Rattle.package_record.specs.Build.{paths_of}
use Rattle.package_record.specs.Content.{Content}
use Rattle.protocol.specs.State.{record_in}

-- being below, as an ordering
is_less : (o : Ordering) → is_lt o ≡ true → o ≡ Less
is_less Less e = refl
is_less Equal e = absurd (true≢false (sym e))
is_less Greater e = absurd (true≢false (sym e))

-- a text that is below all paths is below each
below_each : (t : Text) (rs : List Content)
    → list_all (λ u. is_lt (text_cmp t u)) (paths_of rs) ≡ true → (k : ℕ) (d : Content)
    → k < length rs → text_cmp t (slice_index_or rs k d).path ≡ Less
below_each t [] below k d lt = absurd (omega (arith, lt))
below_each t (r ∷ rs) below zero d lt =
    is_less (text_cmp t r.path) (and_parts (is_lt (text_cmp t r.path)) _ below).0
below_each t (r ∷ rs) below (suc k) d lt =
    below_each t rs (and_parts (is_lt (text_cmp t r.path)) _ below).1 k d (omega (arith, lt))

module _ (path : Text) where
  -- how a record compares with the path
  abbrev place : Content → Ordering
  place r = text_cmp r.path path

  abbrev has_path : Content → Bool
  has_path r = bytes_eq r.path path

  -- the first record found, by whether the first one has the path
  by_first : (r : Content) (rs : List Content) (o : Ordering) → place r ≡ o
      → find has_path (r ∷ rs) ≡ cond (is_eq o) (Some r) (find has_path rs)
  by_first r rs o at =
      ap (λ b. cond b (Some r) (find has_path rs)) (texts_ties r.path path ∙ ap is_eq at)

  -- nothing is found if none has the path
  not_found : (rs : List Content)
      → ((k : ℕ) (d : Content) → k < length rs → is_eq (place (slice_index_or rs k d)) ≡ false)
      → find has_path rs ≡ None
  not_found [] apart = refl
  not_found (r ∷ rs) apart =
      by_first r rs (place r) refl
      ∙ (ap (λ b. cond b (Some r) (find has_path rs)) (apart 0 r (omega arith))
      ∙ not_found rs (λ k d lt. apart (suc k) d (omega (arith, lt))))

  -- in ascending records, the one with the path is found
  found : (rs : List Content) (i : ℕ) (d : Content) → is_ascending (paths_of rs) ≡ true
      → i < length rs → place (slice_index_or rs i d) ≡ Equal
      → find has_path rs ≡ Some (slice_index_or rs i d)
  found [] i d up lt at = absurd (omega (arith, lt))
  found (r ∷ rs) zero d up lt at = by_first r rs Equal at
  found (r ∷ rs) (suc i) d up lt at =
      let parts = and_parts (list_all (λ u. is_lt (text_cmp r.path u)) (paths_of rs)) _ up in
      let inside : i < length rs = omega (arith, lt) in
      let less = below_each r.path rs parts.0 i d inside in
      by_first r rs Less
      (ap (text_cmp r.path) (sym (same_texts (slice_index_or rs i d).path path at)) ∙ less)
      ∙ found rs i d parts.1 inside at

  -- a path below a text is below all texts above that
  higher : (t u : Text) → text_cmp t u ≡ Less
      → ordering_index (text_cmp t path) ≤ ordering_index (text_cmp u path)
  higher t u less = by (text_cmp t path) refl
    where
      above : text_cmp path u ≡ Less → text_cmp u path ≡ Greater
      above e = nat_list_cmp_total.antisymm u path ∙ ap ordering_reverse e

      by : (o : Ordering) → text_cmp t path ≡ o
          → ordering_index o ≤ ordering_index (text_cmp u path)
      by Less at = omega arith
      by Equal at =
          let behind = above (sym (nat_list_cmp_total.congr t path u at) ∙ less) in
          omega (arith, ap ordering_index behind)
      by Greater at =
          let behind = above (nat_list_cmp_total.trans path t u (flipped t path at) less) in
          omega (arith, ap ordering_index behind)

  -- so the comparisons ascend
  places_rise : (rs : List Content) → is_ascending (paths_of rs) ≡ true
      → IsNonDecreasingBy (λ r. ordering_index (place r)) rs
  places_rise [] up i j d le lt = absurd (omega (arith, lt))
  places_rise (r ∷ rs) up zero zero d le lt = omega arith
  places_rise (r ∷ rs) up zero (suc j) d le lt =
      let parts = and_parts (list_all (λ u. is_lt (text_cmp r.path u)) (paths_of rs)) _ up in
      higher r.path (slice_index_or rs j d).path
      (below_each r.path rs parts.0 j d (omega (arith, lt)))
  places_rise (r ∷ rs) up (suc i) zero d le lt = absurd (omega (arith, le))
  places_rise (r ∷ rs) up (suc i) (suc j) d le lt =
      let parts = and_parts (list_all (λ u. is_lt (text_cmp r.path u)) (paths_of rs)) _ up in
      places_rise rs parts.1 i j d (omega (arith, le)) (omega (arith, lt))

  -- a record that a binary search finds is the right one
  pub found_by : (rs : List Content) (i : ℕ) (r : Content) → is_ascending (paths_of rs) ≡ true
      → i < length rs → IsBinarySearchResult place rs (Ok i)
      → record_in path rs ≡ Some (slice_index_or rs i r)
  found_by rs i r up inside at = found rs i r up inside (at r)

  -- and if it finds none, there is none
  pub none_by : (rs : List Content) (i : ℕ) → is_ascending (paths_of rs) ≡ true
      → IsBinarySearchResult place rs (Err i) → record_in path rs ≡ None
  none_by rs i up parted = not_found rs apart
    where
      apart : (k : ℕ) (d : Content) → k < length rs
          → is_eq (place (slice_index_or rs k d)) ≡ false
      apart k d lt =
          let parts = parted (places_rise rs up) in
          elim (cases_lt k i) [
            | inl before ↦ ap is_eq (parts.0 k d (omega arith) before)
            | inr behind ↦ ap is_eq (parts.1 k d behind lt)
          ]
