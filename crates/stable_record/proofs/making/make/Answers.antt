use Rattle.std.proofs.Common.{◌∷◌, ◌++◌, [], refl, ap, ◌∙◌}
use Rattle.stable_record.specs.Log.{closed_gate}
use Rattle.stable_record.proofs.NewLog.{blank_along, made_along}
use Rattle.stable_record.proofs.making.make.Goals as goal

pub returns-in_err-push-clause-any_moment : goal.returns-in_err-push-clause-any_moment
returns-in_err-push-clause-any_moment g c kept i is on blank =
    let h = g.D.Disk.history c.args.disk.now in blank_along i h h on blank refl

pub returns-in_err-reserve-clause-any_moment : goal.returns-in_err-reserve-clause-any_moment
returns-in_err-reserve-clause-any_moment g c kept i is on blank =
    blank_along i (g.D.Disk.history c.args.disk.now) (g.D.Disk.history c.reserve.new.self) on blank c.reserve.ensures.same

pub returns-in_err-finish-clause-any_moment : goal.returns-in_err-finish-clause-any_moment
returns-in_err-finish-clause-any_moment g c kept i is on blank =
    let kept1 = c.finish.ensures.kept kept in
    let bytes = c.deref.ensures.value ∙ c.in_ok-push.ensures.items ∙ ap (λ l. l ++ closed_gate ∷ []) is in
    let begun = c.in_ok-begin.ensures.begun kept1 in
    made_along i (g.D.Disk.history c.args.disk.now) (g.D.Disk.history c.reserve.new.self) (g.D.Disk.history c.begin.new.disk) (g.D.Disk.history c.finish.new.disk) c.reserve.ensures.same
    (c.begin.ensures.any_moment kept1 i) on blank (c.finish.ensures.any_moment kept i bytes begun.0 begun.1)

pub returns-clause-any_moment : goal.returns-clause-any_moment
returns-clause-any_moment g c kept i is on blank =
    let kept1 = c.finish.ensures.kept kept in
    let bytes = c.deref.ensures.value ∙ c.in_ok-push.ensures.items ∙ ap (λ l. l ++ closed_gate ∷ []) is in
    let begun = c.in_ok-begin.ensures.begun kept1 in
    made_along i (g.D.Disk.history c.args.disk.now) (g.D.Disk.history c.reserve.new.self) (g.D.Disk.history c.begin.new.disk) (g.D.Disk.history c.finish.new.disk) c.reserve.ensures.same
    (c.begin.ensures.any_moment kept1 i) on blank (c.finish.ensures.any_moment kept i bytes begun.0 begun.1)
