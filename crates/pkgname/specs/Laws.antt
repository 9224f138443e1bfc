-- What holds of the order of versions.
use Rattle.std.specs.Cmp.{IsTotalOrder}
use Rattle.pkgname.specs.Order.{version_cmp}

-- the order of versions is a total preorder: swapping the two versions reverses the result,
-- less-than is transitive, and versions that tie compare alike with any third one, though they need
-- not be equal
abbrev pub VersionOrderIsTotalPreorder : Type 0
VersionOrderIsTotalPreorder = IsTotalOrder version_cmp
