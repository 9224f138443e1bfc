use Rattle.std.proofs.Common.{◌+◌, refl, subst}
use Rattle.stable_record.specs.inside.Down.{CutsDown}
use Rattle.stable_record.proofs.Trim.{untouched, trimmed_along, trimmed_result}
use Rattle.stable_record.proofs.opening.trim.Goals as goal

pub returns-then-end-saturating_sub-clause-any_moment :
    goal.returns-then-end-saturating_sub-clause-any_moment
returns-then-end-saturating_sub-clause-any_moment g c kept i notes on has place =
    let h = g.D.Disk.history c.args.disk.now in untouched i notes c.args.end h on has place h refl

pub returns-in_err-reserve-clause-any_moment : goal.returns-in_err-reserve-clause-any_moment
returns-in_err-reserve-clause-any_moment g c kept i notes on has place =
    untouched i notes c.args.end (g.D.Disk.history c.args.disk.now) on has place (g.D.Disk.history c.reserve.new.self) c.reserve.ensures.same

pub returns-clause-any_moment : goal.returns-clause-any_moment
returns-clause-any_moment g c kept i notes on has place =
    let h = g.D.Disk.history c.args.disk.now in
    let new = g.D.Disk.history c.cut_down.new.disk in
    let down = subst (λ k. CutsDown (c.args.end + 1) k new c.cut_down.result) c.reserve.ensures.same (c.cut_down.ensures.effect kept) in
    trimmed_along i notes c.args.end h on has place new c.cut_down.result (g.met.D.Disk.stays_possible c.args.disk.now) down

pub returns-clause-settled : goal.returns-clause-settled
returns-clause-settled g c kept i notes on has place size =
    let h = g.D.Disk.history c.args.disk.now in
    let new = g.D.Disk.history c.cut_down.new.disk in
    let down = subst (λ k. CutsDown (c.args.end + 1) k new c.cut_down.result) c.reserve.ensures.same (c.cut_down.ensures.effect kept) in
    trimmed_result i notes c.args.end h on has place new c.cut_down.result down
