-- What contracts see of a walk.
use Rattle.std.specs.Prelude.{ℕ, List}

-- the number of positions, and what the last walk found
pub record Walked : Type 0 where
  pub len : ℕ
  pub found : List ℕ
