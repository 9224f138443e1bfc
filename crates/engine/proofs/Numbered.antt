-- Properties of the number of a package's unit.
use Rattle.std.proofs.Common.{◌≡◌, ◌<◌, ℕ, None, Some, length, sym, ◌∙◌}
use Rattle.std.proofs.lemmas.Bool.{both_ways, true_from_ne_false}
use Rattle.std.proofs.lemmas.List.Quantifiers.{position-Some}
use Rattle.engine.specs.Division.{Division, IsDivision, no_unit, number_of, unit_at}
use Rattle.engine.specs.Ignored.{IsIgnored}
use Rattle.engine.specs.Units.{IsUnitOf, Unit, is_in}
use Rattle.engine.proofs.Lists.{in_contains}
use Rattle.engine.proofs.WellMade.{one_unit_has, unit_unless}

-- a package without a number is ignored
pub unnumbered_ignored : (d : Division) (p : ℕ) → IsDivision d → p < length d.tree → number_of d p ≡ None → IsIgnored d.tree p
unnumbered_ignored d p is listed none S holds = true_from_ne_false (S p) (λ out.
    let numbered = (unit_unless d p is listed).0 (λ ignored. both_ways (S p) out (ignored S holds)) in
    let e : None ≡ Some numbered.0 = sym none ∙ numbered.1 in
    cc)

-- a number is that of the package's unit
pub numbered_unit : (d : Division) (p k : ℕ) → IsDivision d → number_of d p ≡ Some k → (k < length d.units) × IsUnitOf d.tree p (unit_at d k)
numbered_unit d p k is number =
    let at = position-Some (λ (u : Unit). is_in u.packages p) d.units k no_unit number in
    (at.0, (one_unit_has d k p is at.0 (in_contains (unit_at d k).packages p at.1)).1)
