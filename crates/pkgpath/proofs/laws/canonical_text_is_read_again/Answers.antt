use Rattle.pkgpath.proofs.Canonical.{canonical_text_is_read}
use Rattle.pkgpath.proofs.laws.canonical_text_is_read_again.Goals as goal

pub returns : goal.returns
returns c = canonical_text_is_read
