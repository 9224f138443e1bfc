-- The unit of a package that is not ignored, by its number.
use Rattle.std.proofs.Common.{◌≡◌, ◌<◌, ℕ, length, None, Some, sym, subst, ◌∙◌}
use Rattle.std.proofs.lemmas.Option.{none-some}
use Rattle.std.specs.Prelude.{List}
use Rattle.claims.specs.declared.deps.Dep.{Dep}
use Rattle.listing.specs.Tree.{Tree}
use Rattle.engine.specs.Division.{Division, IsDivision, number_of, unit_at}
use Rattle.engine.specs.Ignored.{IsIgnored}
use Rattle.engine.specs.Units.{IsUnitOf, Unit}
use Rattle.engine.proofs.Once.{one_unit}
use Rattle.engine.proofs.WellMade.{unit_unless}
use Rattle.auditing.specs.Allowed.{AreItsDependencies, AreThese}

-- its number gives the unit
pub unit_there : (d : Division) (tree : Tree) (p k : ℕ) → d.tree ≡ tree → IsDivision d → p < length tree
    → ¬ IsIgnored tree p → number_of d p ≡ Some k → IsUnitOf tree p (unit_at d k)
unit_there d tree p k of is lt free e =
    let listed = subst (λ t. p < length t) (sym of) lt in
    let there = (unit_unless d p is listed).0 (subst (λ t. ¬ IsIgnored t p) (sym of) free) in
    let same : there.0 ≡ k = some_same there.0 k (sym there.1 ∙ e) in
    subst (λ t. IsUnitOf t p (unit_at d k)) of (subst (λ n. IsUnitOf d.tree p (unit_at d n)) same there.2)
  where
    some_same : (m n : ℕ) → Some m ≡ Some n → m ≡ n
    some_same m n h = cc

-- and there is one
pub unit_missing : (d : Division) (tree : Tree) (p : ℕ) → d.tree ≡ tree → IsDivision d → p < length tree
    → ¬ IsIgnored tree p → number_of d p ≡ None → ⊥
unit_missing d tree p of is lt free e =
    let listed = subst (λ t. p < length t) (sym of) lt in
    let there = (unit_unless d p is listed).0 (subst (λ t. ¬ IsIgnored t p) (sym of) free) in
    none-some there.0 (sym e ∙ there.1)

-- what a package's dependencies are, by its unit
pub these_from_are : (tree : Tree) (p : ℕ) (u : Unit) (built : List Dep) → IsUnitOf tree p u
    → AreItsDependencies tree p built → AreThese tree u.build built
these_from_are tree p u built is are =
    subst (λ v. AreThese tree v.build built) (one_unit tree p are.unit u are.of_unit is) are.are
