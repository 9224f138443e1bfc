use Rattle.std.proofs.Math.Facts.{Fits-lt-pow}
use Rattle.std.proofs.lemmas.Result.{err_from_is_err_and}
use Rattle.package_record.proofs.BuildsTaken.{whole_build_taken}
use Rattle.wire.specs.Reading.{note_of}
use Rattle.wire.proofs.NoteTexts.{note_is_spelled}
use Rattle.wire.proofs.Refused.{failed}
use Rattle.wire.proofs.decode_note.Goals as goal

pub returns-clause-note : goal.returns-clause-note
returns-clause-note c = note_is_spelled whole_build_taken c.args.text.now c.in_ok-note.note (λ k. Fits-lt-pow (c.type_inv.text k)) c.in_ok-note.ensures

pub returns-in_err-note-clause-exact : goal.returns-in_err-note-clause-exact
returns-in_err-note-clause-exact c =
    let p = err_from_is_err_and c.from_residual.result c.from_residual.ensures.1 in
    rw p.1 (failed c.in_err-note.field-0.0 p.0 (note_of c.args.text.now) p.2 c.in_err-note.ensures)
