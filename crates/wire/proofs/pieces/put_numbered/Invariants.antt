use Rattle.std.proofs.Common.{◌≡◌, ◌++◌, take}
use Rattle.wire.specs.Joining.{bytes_numbered}
use Rattle.wire.proofs.pieces.put_numbered.Given as goal

abbrev pub invariant-loop-piece : goal.invariant-loop-piece
invariant-loop-piece l = l.out.items ≡ l.initial.out.items ++ bytes_numbered l.header (take l.piece-index l.pieces) l.number
