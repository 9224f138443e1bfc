use Rattle.std.proofs.Common.{rules, sym, subst}
use Rattle.stable_record.specs.Crash.{AllAlong}
use Rattle.stable_record.specs.Log.{HasBeforeOrAfter}
use Rattle.stable_record.proofs.Steps.{before_along}
use Rattle.stable_record.proofs.log.add_note.Goals as goal

pub returns-in_err-reserve-clause-any_moment : goal.returns-in_err-reserve-clause-any_moment
returns-in_err-reserve-clause-any_moment g c kept i notes settled =
    let h = g.D.Disk.history c.args.disk.now in
    subst (AllAlong (HasBeforeOrAfter i notes c.args.note.now) h) (sym c.reserve.ensures.same) (before_along i notes c.args.note.now c.args.gate h settled)

pub returns-in_err-bytes-clause-any_moment : goal.returns-in_err-bytes-clause-any_moment
returns-in_err-bytes-clause-any_moment g c kept i notes settled =
    let h = g.D.Disk.history c.args.disk.now in
    subst (AllAlong (HasBeforeOrAfter i notes c.args.note.now) h) (sym c.reserve.ensures.same) (before_along i notes c.args.note.now c.args.gate h settled)

pub returns-clause-settled : goal.returns-clause-settled
returns-clause-settled g c = search rules

pub returns-clause-any_moment : goal.returns-clause-any_moment
returns-clause-any_moment g c = search rules
