use Rattle.pkgpath.proofs.Canonical.{canonical_text_tells}
use Rattle.pkgpath.proofs.laws.canonical_text_tells_the_path.Goals as goal

pub returns : goal.returns
returns c = canonical_text_tells
