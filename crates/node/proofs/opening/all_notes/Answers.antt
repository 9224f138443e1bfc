use Rattle.std.proofs.Common.{◌++◌, ◌∷◌, [], Err, sym, subst, ◌∙◌}
use Rattle.std.proofs.lemmas.Result.{err_from_is_err_and}
use Rattle.node.specs.inside.Opening.{IsNoteOf, IsReadBy}
use Rattle.node.proofs.Reading.{not_notes, notes_more, texts_so_far}
use Rattle.node.proofs.opening.all_notes.Goals as goal

pub returns-in_err-note-clause-bad : goal.returns-in_err-note-clause-bad
returns-in_err-note-clause-bad c =
    let d = c.args.units.now in
    let p = err_from_is_err_and c.from_residual-in_err-note.result c.from_residual-in_err-note.ensures.1 in
    let read = subst (λ t. IsReadBy d t (Err c.in_err-note.field-0.0)) c.as_slice.ensures.value c.in_err-note.ensures in
    rw (p.1, p.2)
    (not_notes d c.args.texts.now c.loop-text.text-index c.text-item.result c.in_err-note.field-0.0 c.loop-text-test.true c.text-item.is read)

pub loop-text-preserved : goal.loop-text-preserved
loop-text-preserved c =
    let d = c.args.units.now in
    let more = texts_so_far d c.args.texts.now c.loop-text.text-index c.text-item.result c.loop-text-test.true c.text-item.is in
    let is = subst (λ t. IsNoteOf d t c.in_ok-note.field-0) c.as_slice.ensures.value c.in_ok-note.ensures in
    record {
      read = rw (more, c.in_ok-push.ensures.items) (notes_more d _ c.loop-text.notes.items c.text-item.result.items c.in_ok-note.field-0 c.loop-text.invariant.read is);
      noted = c.note-in-loop-text.ensures ∙ (λ j. c.loop-text.invariant.noted j ++ c.as_slice-in-loop-text.ensures.value j ∷ []) ∙ sym more;
    }
