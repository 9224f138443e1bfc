use Rattle.std.proofs.Common.{◌≡◌, ◌∙◌, ap, arith, false, length, rules, subst, sym, true}
use Rattle.turn_rules.specs.Own.{IsLeastFree}
use Rattle.scheduler.specs.Wishing.{passed_at}
use Rattle.turn_rules.proofs.Owned.{found_free, none_at_first, none_free, none_further, none_left}
use Rattle.scheduler.proofs.desk.Desk.least_of.Goals as goal

pub loop-init : goal.loop-init
loop-init c = (
  none_at_first c.args.member.now
      (passed_at c.args.self.now c.args.member.now c.args.at c.args.sought),
  omega arith,
  omega arith,
  c.len-end.ensures.count ∙ ap length c.tree.ensures,
)

pub returns-in_err-position : goal.returns-in_err-position
returns-in_err-position c =
    let barred = passed_at c.args.self.now c.args.member.now c.args.at c.args.sought in
    subst (IsLeastFree c.args.member.now barred) (sym c.from_residual.ensures)
    (none_free c.args.member.now barred c.loop.from c.loop.invariant.0
    c.in_err-position.ensures.queued)

pub returns-then-not-is_passed_at : goal.returns-then-not-is_passed_at
returns-then-not-is_passed_at c =
    let barred = passed_at c.args.self.now c.args.member.now c.args.at c.args.sought in
    let e : c.is_passed_at.result ≡ false = search rules in
    found_free c.args.member.now barred c.loop.from c.in_ok-position.position c.loop.invariant.0
    c.in_ok-position.ensures.queued (sym c.is_passed_at.ensures ∙ e)

pub loop-preserved : goal.loop-preserved
loop-preserved c =
    let barred = passed_at c.args.self.now c.args.member.now c.args.at c.args.sought in
    let e : c.is_passed_at.result ≡ true = search rules in
    let queued = c.in_ok-position.ensures.queued in (
      none_further c.args.member.now barred c.loop.from c.in_ok-position.position
          c.loop.invariant.0 queued (sym c.is_passed_at.ensures ∙ e),
      omega (arith, c.loop.invariant.1, queued.0),
      omega (arith, queued.1),
      c.loop.invariant.3,
    )

pub returns : goal.returns
returns c =
    let barred = passed_at c.args.self.now c.args.member.now c.args.at c.args.sought in
    none_left c.args.member.now barred c.loop.from c.loop.invariant.0
    (omega (arith, c.loop.invariant.1, c.loop-test.false, c.loop.invariant.3))
