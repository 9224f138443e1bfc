-- The pieces of a text after the first one.
use Rattle.std.specs.Prelude.{ℕ, List, [], Option}
use Rattle.std.specs.Option.{option_map_or}
use Rattle.faults.specs.Bytes.{Text}
use Rattle.faults.specs.Pieces.{pieces_at}

-- the pieces of the text after a separator, if there is one
abbrev pub pieces_behind : ℕ → Option Text → List Text
pieces_behind separator behind = option_map_or (pieces_at separator) behind []
