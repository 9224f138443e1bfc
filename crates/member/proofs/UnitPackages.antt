-- Agreeing the packages of a unit, one after the other.
use Rattle.std.proofs.Common.{◌≡◌, ◌<◌, ◌+◌, ◌++◌, ℕ, true, List, [], ◌∷◌, length, get_or, take}
use Rattle.std.proofs.Common.{sym, subst, ap, ◌∙◌}
use Rattle.std.specs.FinSet as set
use Rattle.std.specs.Ordering.{nat_cmp}
use Rattle.std.proofs.lemmas.Bool.{false≢true}
use Rattle.std.proofs.lemmas.List.{take_more}
use Rattle.std.proofs.lemmas.List.Sums.{fold-append}
use Rattle.engine.specs.State as engine
use Rattle.engine.specs.Division.{Division, IsDivision, unit_at}
use Rattle.engine.specs.Ignored.{IsIgnored}
use Rattle.engine.specs.Units.{is_in}
use Rattle.engine.proofs.Lists.{in_at, in_contains}
use Rattle.engine.proofs.WellMade.{one_unit_has}
use Rattle.member.specs.inside.Units.{agreed_too}

-- none of them is ignored
pub not_ignored : (d : Division) (u k : ℕ) (ps : List ℕ) → IsDivision d → u < length d.units
    → ps ≡ (unit_at d u).packages → k < length ps → IsIgnored d.tree (get_or ps k 0) → ⊥
not_ignored d u k ps is lt are within ignored =
    let member = subst (λ qs. is_in qs (get_or ps k 0) ≡ true) are (in_at ps k 0 within) in
    let unit = (one_unit_has d u (get_or ps k 0) is lt
    (in_contains (unit_at d u).packages (get_or ps k 0) member)).1 in
    false≢true (sym unit.not_ignored ∙ (unit.are_ignored (get_or ps k 0)).1 ignored)

-- one more is agreed
pub one_more_agreed : (e : engine.State) (ps : List ℕ) (k p : ℕ) → k < length ps
    → get_or ps k p ≡ p
    → agreed_too e (take (k + 1) ps)
    ≡ record (agreed_too e (take k ps))
    { agreed = set.insert ((agreed_too e (take k ps)).agreed) p }
one_more_agreed e ps k p within at =
    ap (agreed_too e) (take_more ps k p within ∙ ap (λ q. take k ps ++ q ∷ []) at)
    ∙ ap (λ (s : set.FinSet nat_cmp). record e { agreed = s })
    (fold-append (λ t q. set.insert t q) e.agreed (take k ps) (p ∷ []))
