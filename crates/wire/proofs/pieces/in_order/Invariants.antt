use Rattle.std.proofs.Common.{◌≡◌}
use Rattle.std.specs.Prelude.{flat_map}
use Rattle.wire.specs.Joining.{bytes_numbered}
use Rattle.wire.proofs.PieceNumbers.{numbers_below}
use Rattle.wire.proofs.pieces.in_order.Given as goal

abbrev pub invariant-loop-number : goal.invariant-loop-number
invariant-loop-number l = l.text.items ≡ flat_map (bytes_numbered l.header l.pieces) (numbers_below l.number l.header.length)
