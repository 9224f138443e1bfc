use Rattle.std.proofs.Common.{◌≡◌, ◌∙◌, [], ◌∷◌, rules, refl, sym, ap, subst}
use Rattle.stable_record.specs.Events.{holds, replay}
use Rattle.stable_record.specs.History.{IsBytes}
use Rattle.stable_record.specs.Memory.{left_file}
use Rattle.stable_record.specs.Pasts.{no_past}
use Rattle.stable_record.proofs.Bytes.{left_are_bytes, no_bytes, none_noted, noted}
use Rattle.stable_record.proofs.Filled.{TellsByte, left_possible}
use Rattle.stable_record.proofs.mem_disk.MemDisk.crash.Goals.{in-Before, in-Written, in-Fill}
use Rattle.stable_record.proofs.mem_disk.MemDisk.crash.Goals as goal

pub returns-clause-possible : goal.returns-clause-possible
returns-clause-possible c =
    let tells : TellsByte c.args.left = elim c.match-left.branch [
      | in-Before w ↦ subst TellsByte (sym w.in-Before.is) tt
      | in-Written w ↦ subst TellsByte (sym w.in-Written.is) tt
      | in-Fill w ↦ subst TellsByte (sym w.in-Fill.is) w.fill.ensures.is_byte
    ] in left_possible c.args.left c.args.self.noted.events tells c.args.self.were_bytes

pub invariant_of-result-clause-were_bytes : goal.invariant_of-result-clause-were_bytes
invariant_of-result-clause-were_bytes c =
    let events = c.args.self.noted.events in
    let tells : TellsByte c.args.left = elim c.match-left.branch [
      | in-Before w ↦ subst TellsByte (sym w.in-Before.is) tt
      | in-Written w ↦ subst TellsByte (sym w.in-Written.is) tt
      | in-Fill w ↦ subst TellsByte (sym w.in-Fill.is) w.fill.ensures.is_byte
    ] in
    let same : c.deref-2.result.now ≡ left_file c.args.left (replay no_past events) = search rules in
    let are = left_are_bytes (replay no_past events) (left_file c.args.left (replay no_past events)) (left_possible c.args.left events tells c.args.self.were_bytes) in
    noted no_past no_past refl [] c.note.new.self.events (none_noted no_past no_past refl [] refl no_bytes) (holds c.deref-2.result.now) (c.note.ensures.1 ∙ ap (λ es. holds c.deref-2.result.now ∷ es) c.new-noted.ensures.1) (subst IsBytes (sym same) are)
