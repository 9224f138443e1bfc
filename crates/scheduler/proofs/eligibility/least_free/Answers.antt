use Rattle.std.proofs.Common.{◌≡◌, ◌∙◌, ap, arith, false, length, rules, subst, sym, true}
use Rattle.turn_rules.specs.Own.{IsLeastFree}
use Rattle.turn_rules.specs.Wishes.{barred_by}
use Rattle.turn_rules.proofs.Owned.{found_free, none_at_first, none_free, none_further, none_left}
use Rattle.scheduler.proofs.eligibility.least_free.Goals as goal

pub loop-init : goal.loop-init
loop-init c = (
  none_at_first c.args.member.now
      (barred_by c.args.member.now c.args.barred.now c.args.over.now),
  omega arith,
  omega arith,
  c.len-end.ensures.count ∙ ap length c.tree.ensures,
)

pub returns-in_err-position : goal.returns-in_err-position
returns-in_err-position c =
    let barred = barred_by c.args.member.now c.args.barred.now c.args.over.now in
    subst (IsLeastFree c.args.member.now barred) (sym c.from_residual.ensures)
    (none_free c.args.member.now barred c.loop.from c.loop.invariant.0
    c.in_err-position.ensures.queued)

pub returns-then-not-is_barred : goal.returns-then-not-is_barred
returns-then-not-is_barred c =
    let barred = barred_by c.args.member.now c.args.barred.now c.args.over.now in
    let e : c.is_barred.result ≡ false = search rules in
    found_free c.args.member.now barred c.loop.from c.in_ok-position.position c.loop.invariant.0
    c.in_ok-position.ensures.queued (sym c.is_barred.ensures ∙ e)

pub loop-preserved : goal.loop-preserved
loop-preserved c =
    let barred = barred_by c.args.member.now c.args.barred.now c.args.over.now in
    let e : c.is_barred.result ≡ true = search rules in
    let queued = c.in_ok-position.ensures.queued in (
      none_further c.args.member.now barred c.loop.from c.in_ok-position.position
          c.loop.invariant.0 queued (sym c.is_barred.ensures ∙ e),
      omega (arith, c.loop.invariant.1, queued.0),
      omega (arith, queued.1),
      c.loop.invariant.3,
    )

pub returns : goal.returns
returns c =
    let barred = barred_by c.args.member.now c.args.barred.now c.args.over.now in
    none_left c.args.member.now barred c.loop.from c.loop.invariant.0
    (omega (arith, c.loop.invariant.1, c.loop-test.false, c.loop.invariant.3))
