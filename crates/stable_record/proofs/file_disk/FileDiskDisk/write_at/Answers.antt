use Rattle.std.proofs.Common.{◌≡◌, ◌∷◌, ◌∙◌, ap, inr, length, Err}
use Rattle.std.proofs.Math.Facts.{Fits-lt-pow}
use Rattle.stable_record.specs.Events.{replay}
use Rattle.stable_record.specs.History.{seen, written}
use Rattle.stable_record.specs.RealFile.{after_failed_write, file_history}
use Rattle.stable_record.specs.inside.Possible.{half_written_is_torn}
use Rattle.stable_record.proofs.Bytes.{noted_write, noted_failed_write}
use Rattle.stable_record.proofs.file_disk.FileDiskDisk.write_at.Goals as goal

pub invariant_of-self : goal.invariant_of-self
invariant_of-self c =
    let old = c.args.self.now in
    let new = c.note.new.self in
    record { were_bytes = noted_write old.noted.past new.past c.note.ensures.0 old.noted.events new.events old.were_bytes c.args.at c.args.bytes.now c.note.ensures.1 (λ k. Fits-lt-pow (c.type_inv.bytes k)) }

pub invariant_of-self-in-Err : goal.invariant_of-self-in-Err
invariant_of-self-in-Err c =
    let old = c.args.self.now in
    let new = c.note-in-Err.new.self in
    record { were_bytes = noted_failed_write old.noted.past new.past c.note-in-Err.ensures.0 old.noted.events new.events old.were_bytes c.args.at (length c.args.bytes.now) c.note-in-Err.ensures.1 }

-- the write is in the history, and torn
pub returns-in-Err-clause-failed : goal.returns-in-Err-clause-failed
returns-in-Err-clause-failed c = λ device.
    let at = c.args.at in
    let count = length c.args.bytes.now in
    let old = c.args.self.now in
    let new = c.note-in-Err.new.self in
    let made : replay new.past new.events ≡ written at count (after_failed_write old at count) ∷ file_history old =
    ap (λ p. replay p new.events) c.note-in-Err.ensures.0 ∙ ap (replay old.noted.past) c.note-in-Err.ensures.1 in (
      ap (λ r. replay r.past r.events) c.failed.ensures.noted ∙ made,
      half_written_is_torn old.noted.past old.noted.events at count (seen (file_history old)) (old.were_bytes 0),
    )

pub returns-in-Err-clause-effect : goal.returns-in-Err-clause-effect
returns-in-Err-clause-effect c = λ kept.
    let left = returns-in-Err-clause-failed c (ap Err c.failed.ensures.fault) in
    record {
      done = tt;
      failed = λ device. inr (after_failed_write c.args.self.now c.args.at (length c.args.bytes.now), left.1, left.0);
      refused = λ none. let fault = c.failed.ensures.fault in absurd cc;
    }
