use Rattle.std.proofs.Common.{◌≡◌, Bool, true, false, cond, not, refl, ap, ◌∙◌}
use Rattle.std.specs.Bool.{beq}
use Rattle.pkgspec.proofs.demand.Demand.is_met_by.Goals as goal

as_wanted : (found wanted : Bool) → beq found wanted ≡ cond wanted found (not found)
as_wanted false false = refl
as_wanted false true = refl
as_wanted true false = refl
as_wanted true true = refl

pub returns : goal.returns
returns c =
    let found = rw c.as_slice.ensures.value at c.is_among.ensures in
    rw (← c.self.view_is) (as_wanted c.is_among.result c.self.inside.is_present ∙ ap (λ b. cond c.self.inside.is_present b (not b)) found)
