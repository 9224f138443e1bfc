use Rattle.std.proofs.Common.{inl, inr, refl, ⊎_elim}
use Rattle.std.proofs.lemmas.Result.{err_from_is_err_and}
use Rattle.ways_on.proofs.Planning.{is_granted, is_planned, no_build, no_majority}
use Rattle.ways_on.proofs.plan.planned.Goals as goal

pub returns-in_default-clause-refused : goal.returns-in_default-clause-refused
returns-in_default-clause-refused c =
    inr (inr (no_majority c.args.world.now.world c.args.node c.args.path.now c.args.host
    c.args.packages c.in_ok-test_unit.ensures.shown c.in_default.ensures))

pub returns-in_err-build-clause-refused : goal.returns-in_err-build-clause-refused
returns-in_err-build-clause-refused c =
    let s = c.in_ok-test_unit.ensures.shown in
    let p = err_from_is_err_and c.from_residual-in_err-build.result
    c.from_residual-in_err-build.ensures.1 in
    rw (p.1, p.2)
    (⊎_elim (λ memory. inl memory)
    (λ refused. inr (inr (no_build c.args.world.now.world c.args.node c.args.path.now c.args.host
    c.args.packages s c.in-Some.ensures.0 c.last_round-last.result
    (c.last_round-last.ensures s.unit s.named) c.in_err-build.field-0.0 refused)))
    (c.in_err-build.ensures s))

pub returns-clause-plan : goal.returns-clause-plan
returns-clause-plan c =
    let s = c.in_ok-test_unit.ensures.shown in
    is_planned c.args.world.now.world c.args.node c.args.path.now c.args.host c.args.packages s
    c.in-Some.ensures.0 c.last_round-last.result (c.last_round-last.ensures s.unit s.named) _
    c.in-Some.ensures.1 refl (c.in_ok-build.ensures s)

pub returns-clause-granted : goal.returns-clause-granted
returns-clause-granted c =
    let s = c.in_ok-test_unit.ensures.shown in
    is_granted c.args.world.now.world c.args.node c.args.path.now c.args.host c.args.packages s
    c.in-Some.ensures.0 c.last_round-last.result (c.last_round-last.ensures s.unit s.named)
    c.in_ok-build.build (c.in_ok-build.ensures s)
