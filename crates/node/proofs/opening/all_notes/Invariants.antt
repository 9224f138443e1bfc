use Rattle.std.proofs.Common.{◌≡◌, map, take}
use Rattle.stable_record.specs.Log.{note_of}
use Rattle.node.specs.Calls.{AreNotes}
use Rattle.node.proofs.opening.all_notes.Given as goal

abbrev pub invariant-loop-text : goal.invariant-loop-text
invariant-loop-text l = record {
  read : AreNotes l.units (map note_of (take l.text-index l.texts)) l.notes.items;
  noted : l.noted.texts ≡ map note_of (take l.text-index l.texts);
}
