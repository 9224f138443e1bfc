-- Units among what is posted.
use Rattle.std.proofs.Common.{◌≡◌, ◌==◌, ◌<◌, ℕ, true, List, ap, eq-eqb, get_or, length, sym}
use Rattle.std.proofs.lemmas.List.Folds.{list_any_at}
use Rattle.scheduler.specs.Posted.{has_unit}
use Rattle.scheduler.specs.declared.posted.Posted.{Posted}

-- the unit of one of these is among their units
pub has_its_unit : (all : List Posted) (k : ℕ) (p : Posted) → k < length all → p ≡ get_or all k p
    → has_unit all p.unit ≡ true
has_its_unit all k p below is =
    list_any_at (λ (q : Posted). q.unit == p.unit) all k p below
    (eq-eqb (get_or all k p).unit p.unit (ap (λ q. q.unit) (sym is)))
