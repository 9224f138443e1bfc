-- What a line of a text of held package paths names.
use Rattle.std.specs.Prelude.{ℕ}
use Rattle.faults.specs.Bytes.{Text}
use Rattle.listing.specs.Tree.{Tree}
use Rattle.dpbr_status.specs.Held.{Names}
use Rattle.engine.specs.Ignored.{IsIgnored}

-- the text names the package at the position, which is not ignored
pub record IsNamed (tree : Tree) (text : Text) (p : ℕ) : Type 0 where
  pub named : Names tree text p
  pub not_ignored : ¬ IsIgnored tree p
