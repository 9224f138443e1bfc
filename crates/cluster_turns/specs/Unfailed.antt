-- The queued packages whose units haven't failed, at each node.
use Rattle.std.specs.Prelude.{◌≡◌, ℕ, List, Some, slice_get, slice_index_or}
use Rattle.turn_rules.specs.Pending.{Pending}
use Rattle.node.specs.State.{LoggedNode}
use Rattle.turn_rules.specs.Unfailed.{AllFailedBelow}

-- At each node, the only queued packages below its position are those whose units failed.
abbrev pub EachFailedBelow : {D : Type 0} → List (LoggedNode D) → Pending → List ℕ → Type 0
EachFailedBelow {D} nodes p unfailed =
    (k : ℕ) (n : LoggedNode D) → slice_get nodes k ≡ Some n
    → AllFailedBelow n.node.member p (slice_index_or unfailed k 0)
