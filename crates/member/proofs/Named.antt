-- Which unit has a name.
use Rattle.std.proofs.Common.{◌≡◌, ◌<◌, ℕ, Bool, true, false, List, [], Option, Some, None, arith}
use Rattle.std.proofs.Common.{length, position, refl, sym, ap, ◌∙◌}
use Rattle.std.specs.Prelude.{cond, nat_lt, option_and_then, unwrap_or}
use Rattle.std.specs.List.{position_or_len, slice_index_or}
use Rattle.std.specs.Str.{bytes_eq}
use Rattle.std.proofs.lemmas.Bool.{false≢true, ltb-false}
use Rattle.std.proofs.lemmas.List.Quantifiers.{position-Some}
use Rattle.std.proofs.lemmas.List.Sums.{fails_before_first}
use Rattle.faults.specs.Answers.{option_or}
use Rattle.faults.specs.Bytes.{Text}
use Rattle.engine.specs.Tree.{position_of}
use Rattle.engine.specs.Division.{Division, no_unit, number_found, number_named, number_of, unit_at}
use Rattle.engine.specs.Units.{Unit}
use Rattle.engine.proofs.Places.{equal_bytes, same_bytes}
use Rattle.protocol.proofs.Asked.{unit_is_one}

-- if nothing is found, nothing passes
nowhere : {X : Type 0} (p : X → Bool) (xs : List X) (k : ℕ) (d : X) → position p xs ≡ None
    → k < length xs → p (slice_index_or xs k d) ≡ false
nowhere p xs k d none lt = by_test (nat_lt (position_or_len p xs) (length xs)) refl none
  where
    by_test : (b : Bool) → nat_lt (position_or_len p xs) (length xs) ≡ b
        → cond b (Some (position_or_len p xs)) None ≡ None → p (slice_index_or xs k d) ≡ false
    by_test true e none = absurd (let no : Some (position_or_len p xs) ≡ None = none in cc)
    by_test false e none =
        let past = ltb-false (position_or_len p xs) (length xs) e in
        fails_before_first p xs k d (omega (arith, past, lt))

module _ (d : Division) (path : Text) where
  -- the unit of a package with this path
  abbrev of_package : Option ℕ
  of_package = option_and_then (number_of d) (position_of d.tree path)

  -- the unit that a path finds exists
  pub found_within : (u : ℕ) → number_found d path ≡ Some u → u < length d.units
  found_within u found =
      unit_is_one (record { division = d; weights = []; me = 0; facts = []; claim = None })
      path u found

  -- and if it names a unit, that is the one that it finds
  pub named_found : (u v : ℕ) → number_found d path ≡ Some u → number_named d path ≡ Some v
      → v ≡ u
  named_found u v found named =
      let same : Some v ≡ Some u = sym (ap (λ n. option_or n of_package) named) ∙ found in
      ap (λ k. unwrap_or k u) same

  -- a unit of this name is named
  pub named_so : (u : ℕ) → number_found d path ≡ Some u → (unit_at d u).name ≡ path
      → number_named d path ≡ Some u
  named_so u found same = by_name (number_named d path) refl
    where
      by_name : (v : Option ℕ) → number_named d path ≡ v → v ≡ Some u
      by_name (Some v) named = ap (λ k. Some k) (named_found u v found named)
      by_name None named =
          absurd (false≢true (sym (nowhere (λ (x : Unit). bytes_eq x.name path) d.units u no_unit
          named (found_within u found))
          ∙ equal_bytes (unit_at d u).name path same))

  -- a unit with another name is found by one of its packages
  pub named_not : (u : ℕ) → number_found d path ≡ Some u → ((unit_at d u).name ≡ path → ⊥)
      → number_named d path ≡ None
  named_not u found other = by_name (number_named d path) refl
    where
      by_name : (v : Option ℕ) → number_named d path ≡ v → v ≡ None
      by_name None named = refl
      by_name (Some v) named =
          let at = position-Some (λ (x : Unit). bytes_eq x.name path) d.units v no_unit named in
          let here = same_bytes (unit_at d v).name path at.1 in
          absurd (other (ap (λ k. (unit_at d k).name) (sym (named_found u v found named)) ∙ here))
