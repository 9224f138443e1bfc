use Rattle.std.proofs.Common.{◌≡◌, ◌∷◌, ◌∙◌, ap, inr, Err}
use Rattle.stable_record.specs.Events.{replay}
use Rattle.stable_record.specs.History.{cut_to, seen}
use Rattle.stable_record.specs.RealFile.{after_failed_cut, file_history}
use Rattle.stable_record.specs.inside.Possible.{half_cut_is_one}
use Rattle.stable_record.proofs.Bytes.{noted_cut, noted_failed_cut}
use Rattle.stable_record.proofs.file_disk.FileDiskDisk.cut.Goals as goal

pub invariant_of-self : goal.invariant_of-self
invariant_of-self c =
    let old = c.args.self.now in
    let new = c.note.new.self in
    record { were_bytes = noted_cut old.noted.past new.past c.note.ensures.0 old.noted.events new.events old.were_bytes c.args.len c.note.ensures.1 }

pub invariant_of-self-in-Err : goal.invariant_of-self-in-Err
invariant_of-self-in-Err c =
    let old = c.args.self.now in
    let new = c.note-in-Err.new.self in
    record { were_bytes = noted_failed_cut old.noted.past new.past c.note-in-Err.ensures.0 old.noted.events new.events old.were_bytes c.args.len c.note-in-Err.ensures.1 }

-- the cut is in the history, done or not
pub returns-in-Err-clause-failed : goal.returns-in-Err-clause-failed
returns-in-Err-clause-failed c = λ device.
    let len = c.args.len in
    let old = c.args.self.now in
    let new = c.note-in-Err.new.self in
    let made : replay new.past new.events ≡ cut_to len (after_failed_cut old len) ∷ file_history old =
    ap (λ p. replay p new.events) c.note-in-Err.ensures.0 ∙ ap (replay old.noted.past) c.note-in-Err.ensures.1 in (
      ap (λ r. replay r.past r.events) c.failed.ensures.noted ∙ made,
      half_cut_is_one old.noted.past old.noted.events len (seen (file_history old)),
    )

pub returns-in-Err-clause-effect : goal.returns-in-Err-clause-effect
returns-in-Err-clause-effect c = λ kept.
    let left = returns-in-Err-clause-failed c (ap Err c.failed.ensures.fault) in
    record {
      done = tt;
      failed = λ device. inr (after_failed_cut c.args.self.now c.args.len, left.1, left.0);
      refused = λ none. let fault = c.failed.ensures.fault in absurd cc;
    }
