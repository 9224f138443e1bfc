-- What the build of a package's unit needs, by sorted positions.
use Rattle.std.proofs.Common.{◌≡◌, ℕ, List, map, Some, sym, subst}
use Rattle.std.specs.List.Sorted.{IsPermutation, IsSorted}
use Rattle.std.specs.Ordering.{nat_cmp}
use Rattle.claims.specs.declared.deps.Dep.{Dep}
use Rattle.listing.specs.Tree.{IsTree, Tree, position_of}
use Rattle.engine.specs.Units.{IsUnitOf}
use Rattle.engine.proofs.WellMade.{well_made}
use Rattle.auditing.specs.Allowed.{AreItsDependencies}
use Rattle.auditing.specs.inside.Standing.{AreNeeded}
use Rattle.auditing.proofs.Built.{are_from_same, same_from_are}

pub its_from_needed : (tree of : Tree) (p : ℕ) (built : List Dep) (ps qs : List ℕ) → of ≡ tree → IsTree tree
    → map (λ (d : Dep). position_of tree d.path) built ≡ map (λ q. Some q) ps → IsPermutation ps qs
    → AreNeeded of p qs → AreItsDependencies tree p built
its_from_needed tree of p built ps qs same is_tree listed moved needed =
    let is = subst (λ (t : Tree). IsUnitOf t p needed.unit) same needed.of_unit in
    record {
      unit = needed.unit;
      of_unit = is;
      are = are_from_same tree needed.unit.build built ps qs is_tree (well_made tree p needed.unit is_tree is).needs listed moved needed.are;
    }

pub needed_from_its : (tree of : Tree) (p : ℕ) (built : List Dep) (ps qs : List ℕ) → of ≡ tree → IsTree tree
    → map (λ (d : Dep). position_of tree d.path) built ≡ map (λ q. Some q) ps → IsPermutation ps qs → IsSorted nat_cmp qs
    → AreItsDependencies tree p built → AreNeeded of p qs
needed_from_its tree of p built ps qs same is_tree listed moved sorted its = record {
  unit = its.unit;
  of_unit = subst (λ (t : Tree). IsUnitOf t p its.unit) (sym same) its.of_unit;
  are = same_from_are tree its.unit.build built ps qs is_tree (well_made tree p its.unit is_tree its.of_unit).needs listed moved sorted its.are;
}
