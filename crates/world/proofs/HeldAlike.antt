-- Two nodes never hold different packages for one path.
use Rattle.std.proofs.Common.{◌≡◌, ◌≢◌, ◌<◌, ℕ, zero, suc, List, [], ◌∷◌, length, map, get_or, refl, sym, ap, subst, ◌∙◌, arith, ⊎_elim}
use Rattle.std.specs.Prelude.{AllPairs, Contains}
use Rattle.std.proofs.lemmas.Bool.{cases_eq, cases_lt}
use Rattle.std.proofs.lemmas.List.{get_or-map, length-map}
use Rattle.std.proofs.lemmas.List.Elements.{Contains-append_left}
use Rattle.package_record.specs.Content.{Content}
use Rattle.world.specs.Headline.{HasOneAPath, HeldIsListed, HoldAlike, IsBeginningOf}
use Rattle.world.specs.World.{World}

-- an earlier package has a different path than a later one
apart : (list : List Content) → AllPairs ◌≢◌ (map (λ r. r.path) list) → (i j : ℕ) (r q : Content)
    → i < j → j < length list
    → get_or list i r ≡ r → get_or list j q ≡ q → r.path ≡ q.path → ⊥
apart list one i j r q lt within er eq same =
    let long = length-map list (λ (r : Content). r.path) in
    one i j r.path lt (omega (arith, within, long))
    (get_or-map (λ (r : Content). r.path) list i r r.path (omega (arith, lt, within))
    ∙ ap (λ (r : Content). r.path) er ∙ same
    ∙ sym (ap (λ (r : Content). r.path) eq)
    ∙ sym (get_or-map (λ (r : Content). r.path) list j q r.path within))

-- so the list has only one package for the path
pub only_one_with : (list : List Content) → AllPairs ◌≢◌ (map (λ r. r.path) list) → (r q : Content)
    → Contains list r → Contains list q
    → r.path ≡ q.path → r ≡ q
only_one_with list one r q (i, wi, er) (j, wj, eq) same = ⊎_elim
    (λ (e : i ≡ j). sym er ∙ same_place i j e wi ∙ eq)
    (λ ne. ⊎_elim
    (λ lt. absurd (apart list one i j r q lt wj er eq same))
    (λ ge. absurd (apart list one j i q r (omega (arith, ge, ne)) wi eq er (sym same)))
    (cases_lt i j))
    (cases_eq i j)
  where
    any_default : (l : List Content) (k : ℕ) (a b : Content) → k < length l
        → get_or l k a ≡ get_or l k b
    any_default [] k a b lt = absurd (omega arith)
    any_default (x ∷ xs) zero a b lt = refl
    any_default (x ∷ xs) (suc k) a b lt = any_default xs k a b (omega (arith, lt))

    same_place : (i j : ℕ) → i ≡ j → i < length list → get_or list i r ≡ get_or list j q
    same_place i j e lt = any_default list i r q lt ∙ ap (λ k. get_or list k q) e

-- What nodes hold for a path, earlier and later, is the same package, if all of it is in the list.
pub held_alike : (v w : World) → HeldIsListed v → HeldIsListed w → IsBeginningOf v.agreed w.agreed
    → HasOneAPath w → HoldAlike v w
held_alike v w then now grew one j k x y path r q sx sy hr hq =
    let a = then.paths j x path r sx hr in
    let b = now.paths k y path q sy hq in
    only_one_with w.agreed one r q
    (subst (λ l. Contains l r) (sym grew.1) (Contains-append_left v.agreed grew.0 r a.1)) b.1
    (a.0 ∙ sym b.0)
