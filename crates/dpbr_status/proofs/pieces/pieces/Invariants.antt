use Rattle.std.proofs.Common.{◌≡◌, ◌++◌, length, map}
use Rattle.faults.specs.Pieces.{pieces_at}
use Rattle.dpbr_status.proofs.pieces.pieces.Given as goal

abbrev pub invariant-pieces : goal.invariant-pieces
invariant-pieces l = map (λ piece. piece.now) l.pieces.items ++ pieces_at l.fn.separator l.rest ≡ pieces_at l.fn.separator l.fn.text

abbrev pub decreases-pieces : goal.decreases-pieces
decreases-pieces l = length l.rest
