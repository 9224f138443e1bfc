-- The files of the first entry with a path.
use Rattle.std.proofs.Common.{◌≡◌, ◌<◌, ◌||◌, ℕ, zero, suc, Bool, true, false, List, [], ◌∷◌, None, Some, length, map, get_or, refl, sym, ap, ◌∙◌, arith, cond}
use Rattle.std.specs.Prelude.{find, is_some, option_map, unwrap_or}
use Rattle.std.specs.Str.{bytes_eq}
use Rattle.faults.specs.Bytes.{Text, is_among}
use Rattle.package_record.specs.Content.{NamedFile}
use Rattle.protocol.specs.Given.{Given}
use Rattle.protocol.specs.Jobs.{files_for}
use Rattle.protocol.specs.inside.First.{NoneHas}

-- files of a path are found if and only if the path is among those that have files
found_among : (builds : Given) (path : Text)
    → is_some (find (λ g. bytes_eq g.0 path) builds) ≡ is_among (map (λ g. g.0) builds) path
found_among [] path = refl
found_among (g ∷ gs) path = by (bytes_eq g.0 path) (found_among gs path)
  where
    by : (b : Bool)
        → is_some (find (λ g. bytes_eq g.0 path) gs) ≡ is_among (map (λ g. g.0) gs) path
        → is_some (cond b (Some g) (find (λ g. bytes_eq g.0 path) gs))
        ≡ (b || is_among (map (λ g. g.0) gs) path)
    by true rest = refl
    by false rest = rest

none_found : (builds : Given) (path : Text) → find (λ g. bytes_eq g.0 path) builds ≡ None
    → is_among (map (λ g. g.0) builds) path ≡ false
none_found builds path none = sym (found_among builds path) ∙ ap is_some none

some_found : (builds : Given) (path : Text) (g : Text × List NamedFile)
    → find (λ g. bytes_eq g.0 path) builds ≡ Some g
    → (is_among (map (λ g. g.0) builds) path ≡ true) × (g.1 ≡ files_for builds path)
some_found builds path g some = (
  sym (found_among builds path) ∙ ap is_some some,
  sym (ap (λ o. unwrap_or (option_map (λ g. g.1) o) []) some),
)

-- ---- the first entry with a path

module _ (builds : Given) (path : Text) where
  -- no entry has the path
  pub none_has : NoneHas builds path (length builds) → is_among (map (λ g. g.0) builds) path ≡ false
  none_has none = none_found builds path (find_none builds none)
    where
      find_none : (gs : Given)
          → ((k : ℕ) (d : Text × List NamedFile) → k < length gs → k < length gs
          → bytes_eq (get_or gs k d).0 path ≡ false)
          → find (λ g. bytes_eq g.0 path) gs ≡ None
      find_none [] each = refl
      find_none (g ∷ gs) each =
          ap (λ b. cond b (Some g) (find (λ g. bytes_eq g.0 path) gs))
          (each 0 g (omega arith) (omega arith))
          ∙ find_none gs (λ k d a b. each (suc k) d (omega (arith, a)) (omega (arith, b)))

  -- this entry is the first
  pub first_has : (i : ℕ) (d : Text × List NamedFile) → i < length builds → NoneHas builds path i
      → bytes_eq (get_or builds i d).0 path ≡ true
      → (is_among (map (λ g. g.0) builds) path ≡ true)
      × ((get_or builds i d).1 ≡ files_for builds path)
  first_has i d below none has =
      some_found builds path (get_or builds i d)
      (find_first builds i below (λ k e a b. none k e a b) has)
    where
      find_first : (gs : Given) (j : ℕ) → j < length gs
          → ((k : ℕ) (e : Text × List NamedFile) → k < j → k < length gs
          → bytes_eq (get_or gs k e).0 path ≡ false)
          → bytes_eq (get_or gs j d).0 path ≡ true
          → find (λ g. bytes_eq g.0 path) gs ≡ Some (get_or gs j d)
      find_first [] j within each is = absurd (omega (arith, within))
      find_first (g ∷ gs) zero within each is =
          ap (λ b. cond b (Some g) (find (λ g. bytes_eq g.0 path) gs)) is
      find_first (g ∷ gs) (suc j) within each is =
          ap (λ b. cond b (Some g) (find (λ g. bytes_eq g.0 path) gs))
          (each 0 g (omega arith) (omega arith))
          ∙ find_first gs j (omega (arith, within))
          (λ k e a b. each (suc k) e (omega (arith, a)) (omega (arith, b))) is
