use Rattle.std.proofs.Common.{rules}
use Rattle.pkgpath.proofs.PartKinds.{IsOfKind-flavor, IsOfKind-subpackage}
use Rattle.pkgpath.proofs.parts.kind_of.Goals as goal

pub returns-then-not-starts_with : goal.returns-then-not-starts_with
returns-then-not-starts_with c = IsOfKind-flavor c.args.part.now (search rules) (search rules) (search rules)

pub returns-then-part-gt1 : goal.returns-then-part-gt1
returns-then-part-gt1 c = IsOfKind-subpackage c.args.part.now (search rules) (search rules) (search rules)
