use Rattle.pkgpath.proofs.Canonical.{IsPath-from_path_of}
use Rattle.pkgpath.proofs.path.PkgPath.parse.Goals as goal

pub invariant_of-result : goal.invariant_of-result
invariant_of-result c = IsPath-from_path_of c.args.text.now c.in_ok-text.text c.in_ok-text.ensures
