use Rattle.std.proofs.Common.{◌≡◌, ◌≤◌, List, [], ◌∷◌, length, ap, arith, refl, subst, ◌∙◌}
use Rattle.std.specs.List.{slice_index_or}
use Rattle.std.specs.Prelude.{IfOk}
use Rattle.package_record.specs.Build.{unit_path}
use Rattle.package_record.specs.Content.{Content}
use Rattle.claims.specs.PkgPath.{without_subpackage}
use Rattle.package_record.proofs.build.unit_of.Goals as goal

-- the unit of two records or more
of_several : (rs : List Content) (r : Content) → 1 ≤ length rs → (length rs ≡ 1 → ⊥) → r ≡ slice_index_or rs 0 r → without_subpackage r.path ≡ unit_path rs
of_several [] r some several is = absurd (omega arith)
of_several (x ∷ []) r some several is = absurd (several refl)
of_several (x ∷ y ∷ xs) r some several is = ap (λ c. without_subpackage c.path) is

pub returns : goal.returns
returns c =
    let r = c.index-records-0-2.result in
    let same = ap without_subpackage c.path-2.ensures.path ∙ of_several c.args.records.now r c.requires c.if-records-eq1.false c.index-records-0-2.is in
    subst (λ t. IfOk c.without_subpackage.result (λ path. path ≡ t)) same c.without_subpackage.ensures
