-- A build that is allowed on some builds is allowed on any larger set of them.
use Rattle.std.proofs.Common.{◌≡◌, ℕ, Bool, true, false, List, [], ◌∷◌, Option, Some, None, refl, sym, subst, option_and_then}
use Rattle.std.proofs.lemmas.Bool.{and_parts, and_from}
use Rattle.std.specs.List.{list_all}
use Rattle.claims.specs.declared.deps.Dep.{Dep}
use Rattle.claims.specs.AgreedList.{IsMonotone}
use Rattle.protocol.specs.State.{Value, unit_with}
use Rattle.engine.specs.Division.{Division, unit_at}
use Rattle.one_list.specs.Needs.{are_records_of, is_signed, may_build, stands_on}

-- if all pass a test, all pass a weaker one
all_weaker : {X : Type 0} (f g : X → Bool) → ((x : X) → f x ≡ true → g x ≡ true) → (xs : List X)
    → list_all f xs ≡ true → list_all g xs ≡ true
all_weaker f g w [] h = refl
all_weaker f g w (x ∷ xs) h = let p = and_parts (f x) (list_all f xs) h in and_from (g x)
    (list_all g xs) (w x p.0) (all_weaker f g w xs p.1)

-- a dependency that is met by some builds is met by more
signed_more : (f g : ℕ → Option Value) → ((p : ℕ) (v : Value) → f p ≡ Some v → g p ≡ Some v)
    → (u : Option ℕ) (d : Dep)
    → is_signed (option_and_then f u) d ≡ true → is_signed (option_and_then g u) d ≡ true
signed_more f g more None d h = h
signed_more f g more (Some u) d h = by_held (f u) refl h
  where
    by_held : (o : Option Value) → f u ≡ o → is_signed o d ≡ true → is_signed (g u) d ≡ true
    by_held None e k = absurd (let wrong : false ≡ true = k in cc)
    by_held (Some v) e k = subst (λ (o : Option Value). is_signed o d ≡ true) (sym (more u v e)) k

-- so the needs of builds are monotone
pub needs_are_monotone : (division : Division) → IsMonotone (may_build division)
needs_are_monotone division f g more u build h =
    let p = and_parts (are_records_of division.tree (unit_at division u)
    (unit_at division u).packages build) (list_all (stands_on division f) build) h in
    and_from (are_records_of division.tree (unit_at division u) (unit_at division u).packages build)
    (list_all (stands_on division g) build) p.0
    (all_weaker (stands_on division f) (stands_on division g)
    (λ r. all_weaker (λ d. is_signed (option_and_then f (unit_with division d.path)) d)
    (λ d. is_signed (option_and_then g (unit_with division d.path)) d)
    (λ d. signed_more f g more (unit_with division d.path) d) r.built) build p.1)
