use Rattle.std.proofs.Common.{◌==◌, ◌+◌, arith}
use Rattle.std.proofs.lemmas.List.{take_rest}
use Rattle.faults.proofs.FirstPlaces.{first_place, halves_at, has_no_byte, pieces_from_None, pieces_from_Some}
use Rattle.faults.proofs.split.split_once.Goals as goal

pub returns-in_err-at-clause-pieces : goal.returns-in_err-at-clause-pieces
returns-in_err-at-clause-pieces c =
    rw c.from_residual.ensures
    (pieces_from_None (λ b. b == c.args.separator) c.args.text.now (first_place (λ b. b == c.args.separator) c.args.text.now _ c.in_err-at.ensures))

pub returns-clause-pieces : goal.returns-clause-pieces
returns-clause-pieces c =
    rw (take_rest c.args.text.now (c.in_ok-at.at + 1))
    (pieces_from_Some (λ b. b == c.args.separator) c.args.text.now c.in_ok-at.at (first_place (λ b. b == c.args.separator) c.args.text.now _ c.in_ok-at.ensures))

pub returns-in_err-at-clause-halves : goal.returns-in_err-at-clause-halves
returns-in_err-at-clause-halves c =
    rw c.from_residual.ensures (has_no_byte c.args.separator c.args.text.now (λ k l. c.in_err-at.ensures k (omega arith) l))

pub returns-clause-halves : goal.returns-clause-halves
returns-clause-halves c = halves_at c.args.separator c.args.text.now c.in_ok-at.at c.in_ok-at.ensures
