use Rattle.std.proofs.Common.{inr, refl, map, length, arith, ap, length-append}
use Rattle.stable_record.specs.Log.{note_of, entry}
use Rattle.stable_record.proofs.NotesRead.{entries_more, lengths_more, gate_found, notes_found, break_found}
use Rattle.stable_record.proofs.reading.notes_behind.Goals as goal

pub loop-notes-preserved : goal.loop-notes-preserved
loop-notes-preserved c =
    let note = c.in-Note.note.now in
    let behind = c.in-Note.behind.now in
    let bytes = c.in_ok-to_vec-in-Note.field-0 in
    let is = c.loop-notes.invariant in
    let h = c.in_ok-to_vec-in-Note.ensures in
    let p = c.in_ok-push-in-Note.ensures.items in
    record {
      within = omega (arith, is.within, ap length c.in-Note.ensures.0, length-append (entry note) behind);
      parts = entries_more c.loop-notes.notes.items c.push.new.self.items bytes note _ c.loop-notes.rest.now behind is.parts c.in-Note.ensures.0 (h.items_if_clones_equal (λ x y e. e)) p;
      lengths = lengths_more c.loop-notes.notes.items c.push.new.self.items bytes note is.lengths c.in-Note.ensures.1 (h.items_if_clones_equal (λ x y e. e)) p;
    }

pub returns-in-Closed-clause-ok : goal.returns-in-Closed-clause-ok
returns-in-Closed-clause-ok c = λ i begins.
    let notes = map note_of c.loop-notes.notes.items in
    let is = c.loop-notes.invariant in (
      notes_found i notes c.args.file.now c.loop-notes.rest.now c.args.first c.requires begins is.parts is.lengths c.in-Closed.ensures,
      gate_found i notes c.args.file.now c.loop-notes.rest.now c.args.first c.requires begins is.parts,
    )

pub returns-in-CutShort-clause-refused : goal.returns-in-CutShort-clause-refused
returns-in-CutShort-clause-refused c =
    let is = c.loop-notes.invariant in
    inr (refl, λ i begins. break_found i (map note_of c.loop-notes.notes.items) c.args.file.now c.loop-notes.rest.now c.args.first c.requires begins is.parts is.lengths c.in-CutShort.ensures)
