-- The first difference of two texts.
use Rattle.std.specs.Prelude.{◌≡◌, ◌≢◌, ◌+◌, ◌++◌, ◌==◌, ℕ, count_by, slice_get}
use Rattle.faults.specs.Bytes.{Text, line_feed}

-- The texts first differ in this line, counted from 1. Both begin with `both`, which ends in this
-- line, and then they continue with different bytes, or only one of them continues.
pub record PartIn (text other : Text) (line : ℕ) : Type 0 where
  pub both : Text
  pub rest : Text
  pub other_rest : Text
  pub parts : text ≡ both ++ rest
  pub other_parts : other ≡ both ++ other_rest
  pub part : slice_get rest 0 ≢ slice_get other_rest 0
  pub counted : line ≡ count_by (λ byte. byte == line_feed) both + 1
