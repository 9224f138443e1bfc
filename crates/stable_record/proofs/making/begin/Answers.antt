use Rattle.std.proofs.Common.{◌∷◌, take, ap}
use Rattle.stable_record.specs.History.{seen, cut_to}
use Rattle.stable_record.proofs.NewLog.{emptied, gate_put, on_disk_after}
use Rattle.stable_record.proofs.making.begin.Goals as goal

pub returns-in_err-cut_down-clause-any_moment : goal.returns-in_err-cut_down-clause-any_moment
returns-in_err-cut_down-clause-any_moment g c kept i on blank =
    emptied i (g.D.Disk.history c.args.disk.now) (g.met.D.Disk.stays_possible c.args.disk.now) on (g.D.Disk.history c.cut_down.new.disk) c.cut_down.result blank (c.cut_down.ensures.effect kept)

pub returns-clause-any_moment : goal.returns-clause-any_moment
returns-clause-any_moment g c kept i on blank =
    let h = g.D.Disk.history c.args.disk.now in
    let h1 = g.D.Disk.history c.cut_down.new.disk in
    let kept1 = c.write_down.ensures.kept kept in
    let so_far = emptied i h (g.met.D.Disk.stays_possible c.args.disk.now) on h1 c.cut_down.result blank (c.cut_down.ensures.effect kept1) in
    let done = (c.in_ok-cut_down.ensures.effect kept1).done in
    let last = cut_to 0 (take 0 (seen h)) ∷ h in
    gate_put i h1 (g.met.D.Disk.stays_possible c.cut_down.new.disk) (on_disk_after last h1 done) h (g.D.Disk.history c.write_down.new.disk) c.write_down.result (ap seen done) so_far (c.write_down.ensures.effect kept)
