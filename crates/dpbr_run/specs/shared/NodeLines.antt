-- The lines of a world's nodes.
use Rattle.std.specs.Prelude.{◌≡◌, ℕ, List, Some, flat_map, length, slice_get}
use Rattle.faults.specs.Bytes.{Text}
use Rattle.dpbr_run.specs.Run.{IsNodeLine}
use Rattle.world.specs.World.{World}

-- the text has the lines of the nodes below a number
pub record HasNodeLines (w : World) (n : ℕ) (text : Text) : Type 0 where
  pub lines : List Text
  pub count : length lines ≡ n
  pub are_lines : (k : ℕ) (line : Text) → slice_get lines k ≡ Some line → IsNodeLine w k line
  pub text_is : text ≡ flat_map (λ line. line) lines
