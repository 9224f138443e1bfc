-- The unit of the records of a build.
use Rattle.std.proofs.Common.{◌≡◌, ◌≢◌, ◌≤◌, List, [], ◌∷◌, length, get_or, refl, ap, arith}
use Rattle.claims.specs.PkgPath.{without_subpackage}
use Rattle.package_record.specs.Build.{AreAlike, unit_path}
use Rattle.package_record.specs.Content.{Content}

pub some_records : (cs : List Content) → AreAlike cs → 1 ≤ length cs
some_records [] alike = absurd alike
some_records (c ∷ cs) alike = omega arith

pub path_of_one : (cs : List Content) (c : Content) → length cs ≡ 1 → c ≡ get_or cs 0 c → c.path ≡ unit_path cs
path_of_one [] c one here = absurd (omega arith)
path_of_one (d ∷ []) c one here = ap (λ (c : Content). c.path) here
path_of_one (d ∷ e ∷ cs) c one here = absurd (omega arith)

pub path_of_more : (cs : List Content) (c : Content) → 1 ≤ length cs → length cs ≢ 1 → c ≡ get_or cs 0 c → without_subpackage c.path ≡ unit_path cs
path_of_more [] c some more here = absurd (omega arith)
path_of_more (d ∷ []) c some more here = absurd (more refl)
path_of_more (d ∷ e ∷ cs) c some more here = ap (λ (c : Content). without_subpackage c.path) here
