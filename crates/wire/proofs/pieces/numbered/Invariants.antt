use Rattle.std.proofs.Common.{◌≡◌, length, map}
use Rattle.std.specs.List.{range_with_len}
use Rattle.wire.specs.Pieces.{piece_at}
use Rattle.wire.specs.declared.datagram.Datagram.TheVariants.{Piece}
use Rattle.wire.proofs.CutTexts.{joined}
use Rattle.wire.proofs.pieces.numbered.Given as goal

abbrev pub invariant-loop-bytes : goal.invariant-loop-bytes
invariant-loop-bytes l = record {
  pieces : l.pieces.items ≡ map (λ k. Piece (piece_at l.header (joined l.fn.cuts.items) k)) (range_with_len 0 l.number);
  number : l.number ≡ length l.yielded;
}
