use Rattle.std.proofs.lemmas.Grind.{elements}
use Rattle.std.proofs.Common.{◌∙◌, refl, rules, sym, arith}
use Rattle.std.proofs.Math.Facts.{Fits-lt-pow}
use Rattle.stable_record.specs.Events.{replay}
use Rattle.stable_record.specs.History.{seen, overwritten}
use Rattle.stable_record.specs.Pasts.{no_past}
use Rattle.stable_record.proofs.Bytes.{noted_write}
use Rattle.stable_record.proofs.Filled.{unsynced_push}
use Rattle.stable_record.proofs.mem_disk.MemDiskDisk.write_at.Goals as goal

-- nothing to write
pub invariant_of-self-clause-were_bytes : goal.invariant_of-self-clause-were_bytes
invariant_of-self-clause-were_bytes c =
    let self = c.args.self.now in
    noted_write no_past no_past refl self.noted.events c.note.new.self.events self.were_bytes c.args.at c.args.bytes.now c.note.ensures.1 (λ k. Fits-lt-pow (c.type_inv.bytes k))

pub invariant_of-self-2-clause-were_bytes : goal.invariant_of-self-2-clause-were_bytes
invariant_of-self-2-clause-were_bytes c =
    let self = c.keep_from.new.self in
    noted_write no_past no_past refl self.noted.events c.note-2.new.self.events self.were_bytes c.args.at c.args.bytes.now c.note-2.ensures.1 (λ k. Fits-lt-pow (c.type_inv.bytes k))

pub invariant_of-self-2-clause-ranges_are : goal.invariant_of-self-2-clause-ranges_are
invariant_of-self-2-clause-ranges_are c =
    let bytes = c.args.bytes.now in
    let h = replay no_past c.keep_from.new.self.noted.events in
    let pushed = unsynced_push c.args.at bytes (overwritten c.args.at bytes (seen h)) h (sym c.is_empty.ensures ∙ c.if-is_empty.false) in
    search rules

pub returns-clause-room : goal.returns-clause-room
returns-clause-room c = grind (arith, elements)
