use Rattle.std.proofs.Common.{◌≡◌, ◌∙◌, ap, arith, false, length, rules, subst, sym, true}
use Rattle.scheduler.specs.Wishing.{IsNextAsked, builds}
use Rattle.scheduler.proofs.Asked.{none_at_first, none_before, none_further, none_left, none_queued}
use Rattle.scheduler.proofs.desk.Desk.next_asked.Goals as goal

pub loop-init : goal.loop-init
loop-init c = (
  none_at_first c.args.member.now (builds c.args.member.now c.args.self.now) c.args.from,
  omega arith,
  omega arith,
  c.len-end.ensures.count ∙ ap length c.tree.ensures,
)

pub returns-in_err-position : goal.returns-in_err-position
returns-in_err-position c =
    let s = c.args.member.now in
    let d = c.args.self.now in
    subst (IsNextAsked s d c.args.from) (sym c.from_residual.ensures)
    (none_queued s (builds s d) c.args.from c.loop.at c.loop.invariant.0
    c.in_err-position.ensures.queued)

pub returns-then-not-builds_at : goal.returns-then-not-builds_at
returns-then-not-builds_at c =
    let s = c.args.member.now in
    let d = c.args.self.now in
    let e : c.builds_at.result ≡ false = search rules in
    let queued = c.in_ok-position.ensures.queued in (
      queued.1,
      omega (arith, c.loop.invariant.2, queued.0),
      (queued.2, sym c.builds_at.ensures ∙ e),
      none_before s (builds s d) c.args.from c.loop.at c.in_ok-position.position
          c.loop.invariant.0 queued,
    )

pub loop-preserved : goal.loop-preserved
loop-preserved c =
    let s = c.args.member.now in
    let d = c.args.self.now in
    let e : c.builds_at.result ≡ true = search rules in
    let queued = c.in_ok-position.ensures.queued in (
      none_further s (builds s d) c.args.from c.loop.at c.in_ok-position.position
          c.loop.invariant.0 queued (sym c.builds_at.ensures ∙ e),
      omega (arith, c.loop.invariant.1, queued.0),
      omega (arith, c.loop.invariant.2, queued.0),
      c.loop.invariant.3,
    )

pub returns : goal.returns
returns c =
    let s = c.args.member.now in
    let d = c.args.self.now in
    none_left s (builds s d) c.args.from c.loop.at c.loop.invariant.0
    (omega (arith, c.loop.invariant.1, c.loop-test.false, c.loop.invariant.3))
