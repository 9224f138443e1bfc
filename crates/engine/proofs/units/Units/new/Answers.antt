use Rattle.std.proofs.Common.{subst, sym}
use Rattle.engine.proofs.Kept.{gathered_alike, kept_whole}
use Rattle.engine.specs.declared.units.Parts.{Parts}
use Rattle.engine.specs.Division.{IsDivision}
use Rattle.engine.specs.inside.UnitKeeping.{AreGroups, AreNumbers, division_made}
use Rattle.graph.specs.Marks.{has_mark}
use Rattle.engine.specs.shared.Marks.{AreIgnored}
use Rattle.engine.proofs.units.Units.new.Goals as goal

pub units_of-requires-clause-alike : goal.units_of-requires-clause-alike
units_of-requires-clause-alike c =
    let tree = c.args.tree.now in
    gathered_alike tree (has_mark c.as_slice.result.now) c.in_ok-groups.field-0.packages.items c.in_ok-groups.ensures.gathered.packages

pub invariant_of-result : goal.invariant_of-result
invariant_of-result c =
    let tree = c.args.tree.now in
    subst (λ (p : Parts). let d = division_made tree p.units.items in IsDivision d × AreNumbers d p.numbers.items × AreGroups d p.groups.keys) (sym c.in_ok-parts.ensures.ok)
    (kept_whole tree c.as_slice.result.now c.in_ok-groups.field-0 c.in_ok-units.units.items c.in_ok-groups.ensures.tree
    (subst (AreIgnored tree) (sym c.as_slice.ensures.value) c.in_ok-ignored.ensures) c.in_ok-groups.ensures.gathered c.in_ok-units.ensures)
