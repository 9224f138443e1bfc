use Rattle.std.proofs.Common.{inr, refl, sym}
use Rattle.node.proofs.Reading.{of_no_unit, unread_is}
use Rattle.node.proofs.opening.note.Goals as goal

pub returns-in-Err : goal.returns-in-Err
returns-in-Err c = rw c.unread.ensures (unread_is c.args.units.now c.args.text.now c.in-Err.fault c.in-Err.ensures.exact)

pub returns-else-is_unit : goal.returns-else-is_unit
returns-else-is_unit c =
    let n = c.in-Ok.note in
    inr (refl, of_no_unit c.args.units.now c.args.text.now n c.in-Ok.ensures.note.0 c.in-Ok.ensures.note.1 (sym c.if-is_unit.ensures))
