use Rattle.std.proofs.Common.{◌∷◌, ◌++◌, [], Ok, length, ap, subst, ◌∙◌}
use Rattle.stable_record.specs.inside.Down.{WritesDown}
use Rattle.stable_record.specs.History.{seen, written, overwritten}
use Rattle.stable_record.specs.Log.{closed_gate, header}
use Rattle.stable_record.proofs.NewLog.{header_put, header_file, gate_opened, made_result, on_disk_after}
use Rattle.stable_record.proofs.making.finish.Goals as goal

pub returns-in_err-write_down-clause-any_moment : goal.returns-in_err-write_down-clause-any_moment
returns-in_err-write_down-clause-any_moment g c kept i is on gate =
    let h = g.D.Disk.history c.args.disk.now in
    let h1 = g.D.Disk.history c.write_down.new.disk in
    let down = subst (λ b. WritesDown 1 b h h1 c.write_down.result) is (c.write_down.ensures.effect kept) in
    header_put i h (g.met.D.Disk.stays_possible c.args.disk.now) on h1 c.write_down.result gate down

pub returns-clause-any_moment : goal.returns-clause-any_moment
returns-clause-any_moment g c kept i is on gate =
    let h = g.D.Disk.history c.args.disk.now in
    let h1 = g.D.Disk.history c.write_down.new.disk in
    let kept1 = c.write_down-2.ensures.kept kept in
    let down = subst (λ b. WritesDown 1 b h h1 c.write_down.result) is (c.write_down.ensures.effect kept1) in
    let so_far = header_put i h (g.met.D.Disk.stays_possible c.args.disk.now) on h1 c.write_down.result gate down in
    let bytes = header i ++ closed_gate ∷ [] in
    let last = written 1 (length bytes) (overwritten 1 bytes (seen h)) ∷ h in
    let done = (subst (λ b. WritesDown {T = Unit {0}} 1 b h h1 (Ok c.in_ok-write_down.field-0)) is (c.in_ok-write_down.ensures.effect kept1)).done in
    gate_opened i h1 (g.met.D.Disk.stays_possible c.write_down.new.disk) (on_disk_after last h1 done) h (g.D.Disk.history c.write_down-2.new.disk) c.write_down-2.result (ap seen done ∙ header_file i (seen h) gate) so_far (c.write_down-2.ensures.effect kept)

pub returns-clause-made : goal.returns-clause-made
returns-clause-made g c kept i is on gate =
    let h = g.D.Disk.history c.args.disk.now in
    let h1 = g.D.Disk.history c.write_down.new.disk in
    let kept1 = c.write_down-2.ensures.kept kept in
    let bytes = header i ++ closed_gate ∷ [] in
    let last = written 1 (length bytes) (overwritten 1 bytes (seen h)) ∷ h in
    let done = (subst (λ b. WritesDown {T = Unit {0}} 1 b h h1 (Ok c.in_ok-write_down.field-0)) is (c.in_ok-write_down.ensures.effect kept1)).done in
    made_result i h1 (g.D.Disk.history c.write_down-2.new.disk) c.write_down-2.result (ap seen done ∙ header_file i (seen h) gate) (c.write_down-2.ensures.effect kept)
