-- What failed leaves what is out.
use Rattle.std.proofs.Common.{◌≡◌, ◌<◌, ◌++◌, ◌∷◌, ◌∙◌, [], ℕ, List, None, Option, Some, ap, get_or, length, sym}
use Rattle.std.specs.Prelude.{nat_eq}
use Rattle.std.specs.List.{remove}
use Rattle.std.proofs.lemmas.Option.{slice_get-get_or}
use Rattle.faults.specs.Bytes.{Text}
use Rattle.indexmap.specs.IndexMap.{insert_entry}
use Rattle.scheduler.specs.Taking.{place_of, posted_at, with_failed, with_pressing, with_name, without_place, without_unit}
use Rattle.scheduler.specs.declared.posted.Posted.{Posted}

module _ (posted : List Posted) (unit : Option ℕ) where
  -- if the unit has no place, nothing moves
  pub none_leaves : place_of posted unit ≡ None → without_unit posted unit ≡ posted
  none_leaves none = ap (without_place posted) none

  pub none_comes : (names : List (ℕ × Text)) → place_of posted unit ≡ None
      → with_failed names posted unit ≡ names
  none_comes names none = ap (λ k. with_name names (posted_at posted k)) none

  -- if it has one, the job there moves
  pub one_leaves : (k : ℕ) → place_of posted unit ≡ Some k → without_unit posted unit ≡ remove posted k
  one_leaves k at = ap (without_place posted) at

  -- and it is asked for at once
  pub one_presses : (units : List ℕ) (k : ℕ) (p : Posted) → place_of posted unit ≡ Some k
      → k < length posted → p ≡ get_or posted k p
      → with_pressing units (posted_at posted (place_of posted unit)) ≡ units ++ p.unit ∷ []
  one_presses units k p at within is =
      ap (λ j. with_pressing units (posted_at posted j)) at
      ∙ ap (with_pressing units) (slice_get-get_or posted k p within ∙ ap Some (sym is))

  pub none_presses : (units : List ℕ) → place_of posted unit ≡ None
      → with_pressing units (posted_at posted (place_of posted unit)) ≡ units
  none_presses units none = ap (λ k. with_pressing units (posted_at posted k)) none

  pub one_comes : (names : List (ℕ × Text)) (k : ℕ) (p : Posted) → place_of posted unit ≡ Some k
      → k < length posted → p ≡ get_or posted k p
      → with_failed names posted unit ≡ insert_entry nat_eq names p.unit p.name
  one_comes names k p at within is =
      ap (λ j. with_name names (posted_at posted j)) at
      ∙ ap (with_name names) (slice_get-get_or posted k p within ∙ ap Some (sym is))

  -- it is not out
  pub none_posted : place_of posted unit ≡ None → posted_at posted (place_of posted unit) ≡ None
  none_posted none = ap (posted_at posted) none

  -- it is that one
  pub one_posted : (k : ℕ) (p : Posted) → place_of posted unit ≡ Some k → k < length posted
      → p ≡ get_or posted k p → posted_at posted (place_of posted unit) ≡ Some p
  one_posted k p at within is =
      ap (posted_at posted) at ∙ (slice_get-get_or posted k p within ∙ ap Some (sym is))
