use Rattle.pkgname.proofs.Preorder.{version_cmp_total}
use Rattle.pkgname.proofs.laws.version_order_is_total_preorder.Goals as goal

pub returns : goal.returns
returns c = version_cmp_total
