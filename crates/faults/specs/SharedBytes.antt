-- The bytes of either representation.
use Rattle.std.specs.Prelude.{ℕ, List}
use Rattle.faults.specs.declared.shared_bytes.Bytes.{Bytes}
use Rattle.faults.specs.declared.shared_bytes.Bytes.TheVariants.{Short, Long}

-- the bytes, wherever they are stored
abbrev pub items_of : Bytes → List ℕ
items_of (Short bytes) = bytes
items_of (Long bytes) = bytes.items
