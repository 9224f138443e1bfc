use Rattle.std.proofs.Common.{◌≡◌, ◌∙◌, ap, subst, sym}
use Rattle.pkgpath.proofs.Without.{without-is_path}
use Rattle.pkgpath.specs.PkgPath.{IsPath, without_subpackage}
use Rattle.pkgpath.proofs.path.PkgPath.without_subpackage.Goals as goal

pub invariant_of-result : goal.invariant_of-result
invariant_of-result c =
    let same : c.in_ok-text.text ≡ without_subpackage c.args.self.now = c.in_ok-text.ensures ∙ c.len_without_subpackage-len.ensures.text ∙ ap without_subpackage c.as_bytes-path.ensures.text in
    subst IsPath (sym same) (without-is_path c.args.self.now c.as_bytes-path.ensures.canonical)
