use Rattle.std.proofs.Common.{◌∙◌, sym}
use Rattle.faults.specs.Bytes.{dash}
use Rattle.pkgname.proofs.Cutting.{front_cut}
use Rattle.pkgname.proofs.name.version_length.Goals as goal

pub returns-in-Some-2-clause-ok : goal.returns-in-Some-2-clause-ok
returns-in-Some-2-clause-ok c =
    let cut = front_cut dash c.args.text.now c.in-Some.field-0-0.now c.in-Some.flavors.now c.in-Some.ensures.halves.0 in
    (cut.0, rw (cut.1, cut.2) c.in-Some.ensures.pieces, rw c.in-Some.ensures.pieces (sym c.has_empty_piece.ensures ∙ c.if-has_empty_piece.false))
