use Rattle.std.proofs.Common.{◌∙◌, eq-eqb, sym}
use Rattle.node.proofs.Found.{with_it}
use Rattle.node.proofs.kept.has_with.Goals as goal

pub returns-then-number-piece : goal.returns-then-number-piece
returns-then-number-piece c =
    let p = c.args.piece.now in
    eq-eqb c.args.number p.number c.if-number-piece.true ∙ sym (with_it c.args.pieces.now p c.args.number c.if-number-piece.true)
