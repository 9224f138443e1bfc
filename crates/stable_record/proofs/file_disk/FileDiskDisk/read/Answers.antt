use Rattle.std.proofs.Common.{◌≡◌, ◌≤◌, ◌-◌, ℕ, Bool, true, false, ◌&&◌, List, ◌∷◌, length, take, drop, min, sym, ◌∙◌, ap, arith, length-take, length-drop}
use Rattle.std.specs.Str.{bytes_eq}
use Rattle.std.proofs.lemmas.List.{take_all, take-take}
use Rattle.std.proofs.lemmas.Slice.Eq.{bytes_eq-Decides}
use Rattle.stable_record.specs.Events.{Event, Past, agrees, replay, reads}
use Rattle.stable_record.specs.Faults.{ReadsAt}
use Rattle.stable_record.specs.History.{seen}
use Rattle.stable_record.specs.inside.Possible.{and_right}
use Rattle.stable_record.proofs.Bytes.{noted}
use Rattle.stable_record.proofs.file_disk.FileDiskDisk.read.Goals as goal

-- what was read, if the history agrees
reads_at : (file buf : List ℕ) (at count : ℕ) → count ≤ length buf → take count buf ≡ take (length buf) (drop at file) → ReadsAt file at count buf
reads_at file buf at count fits same =
    let there = take (length buf) (drop at file) in
    let size : count ≡ min (length buf) (length file - at) = omega (arith, ap length same, length-take count buf, length-take (length buf) (drop at file), length-drop at file) in
    let long : length there ≤ count = omega (arith, size, length-take (length buf) (drop at file), length-drop at file) in
    record { bytes = same ∙ sym (take_all count there long) ∙ take-take count (length buf) (drop at file) fits; all = size }

agreed : (past later : Past) (es es' : List Event) (at count : ℕ) (buf : List ℕ) → later ≡ past → es' ≡ reads at (length buf) (take count buf) ∷ es → count ≤ length buf
    → agrees later es' ≡ true → ReadsAt (seen (replay past es)) at count buf
agreed past later es es' at count buf same is fits agree =
    let file = seen (replay past es) in
    let there = take (length buf) (drop at file) in
    let both : (agrees past es && bytes_eq (take count buf) there) ≡ true = sym (ap (agrees past) is) ∙ sym (ap (λ p. agrees p es') same) ∙ agree in
    reads_at file buf at count fits ((bytes_eq-Decides (take count buf) there).0 (and_right (agrees past es) (bytes_eq (take count buf) there) both))

pub returns-in-Ok-clause-answer : goal.returns-in-Ok-clause-answer
returns-in-Ok-clause-answer c = λ agree.
    let old = c.args.self.now.noted in
    let new = c.note.new.self in
    agreed old.past new.past old.events new.events c.args.at c.in-Ok.count c.read_full.new.buf c.note.ensures.0 c.note.ensures.1 (omega (arith, c.in-Ok.ensures, c.read_full.auto.buf)) agree

pub invariant_of-self : goal.invariant_of-self
invariant_of-self c =
    let old = c.args.self.now in
    let new = c.note.new.self in
    let buf = c.read_full.new.buf in
    record { were_bytes = noted old.noted.past new.past c.note.ensures.0 old.noted.events new.events old.were_bytes (reads c.args.at (length buf) (take c.in-Ok.count buf)) c.note.ensures.1 (old.were_bytes 0) }
