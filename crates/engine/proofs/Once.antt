-- A tree has only one list of units, and a package only one unit.
use Rattle.std.proofs.Common.{◌≡◌, ℕ, Bool, List, sym, ap, ◌∙◌}
use Rattle.listing.specs.Tree.{Tree}
use Rattle.engine.proofs.Lists.{same_answers}
use Rattle.engine.specs.Ignored.{AreTheIgnored}
use Rattle.engine.specs.Units.{AreUnits, IsUnitOf, Unit, unit_with, units_with}

-- two tests for the ignored packages are equal
one_test : (tree : Tree) (S T : ℕ → Bool) → AreTheIgnored tree S → AreTheIgnored tree T → S ≡ T
one_test tree S T s t = λ i p. same_answers (S p) (T p) (λ h. (t p).1 ((s p).0 h)) (λ h. (s p).1 ((t p).0 h)) i

pub one_division : (tree : Tree) (us vs : List Unit) → AreUnits tree us → AreUnits tree vs → us ≡ vs
one_division tree us vs a b = a.are ∙ ap (units_with tree) (one_test tree a.ignored b.ignored a.are_ignored b.are_ignored) ∙ sym b.are

pub one_unit : (tree : Tree) (p : ℕ) (u v : Unit) → IsUnitOf tree p u → IsUnitOf tree p v → u ≡ v
one_unit tree p u v a b = a.is ∙ ap (λ S. unit_with tree S p) (one_test tree a.ignored b.ignored a.are_ignored b.are_ignored) ∙ sym b.is
