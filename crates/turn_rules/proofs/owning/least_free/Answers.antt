use Rattle.std.specs.List.{list_any}
use Rattle.std.proofs.Common.{◌≡◌, ◌==◌, ◌||◌, ℕ, ◌∙◌, ap, arith, false, length, rules, subst, sym, true}
use Rattle.turn_rules.specs.Own.{IsLeastFree}
use Rattle.turn_rules.specs.Pending.{has_failed}
use Rattle.turn_rules.proofs.Owned.{found_free, none_free, none_further, none_left}
use Rattle.turn_rules.proofs.FailedBelow.{none_free_before}
use Rattle.turn_rules.proofs.owning.least_free.Goals as goal

pub loop-init : goal.loop-init
loop-init c = (
  none_free_before c.args.member.now c.args.pending.now c.args.elsewhere.now c.args.from
      c.requires,
  omega arith,
  c.len-end.ensures.count ∙ ap length c.tree.ensures,
)

pub returns-in_err-position : goal.returns-in_err-position
returns-in_err-position c =
    let barred = λ (u : ℕ). has_failed c.args.pending.now u || list_any (λ (v : ℕ). v == u) c.args.elsewhere.now in
    subst (IsLeastFree c.args.member.now barred) (sym c.from_residual.ensures)
    (none_free c.args.member.now barred c.loop.from c.loop.invariant.0
    c.in_err-position.ensures.queued)

pub returns-then-not-is_barred : goal.returns-then-not-is_barred
returns-then-not-is_barred c =
    let barred = λ (u : ℕ). has_failed c.args.pending.now u || list_any (λ (v : ℕ). v == u) c.args.elsewhere.now in
    let e : c.is_barred.result ≡ false = search rules in
    found_free c.args.member.now barred c.loop.from c.in_ok-position.position c.loop.invariant.0
    c.in_ok-position.ensures.queued (sym c.is_barred.ensures ∙ e)

pub loop-preserved : goal.loop-preserved
loop-preserved c =
    let barred = λ (u : ℕ). has_failed c.args.pending.now u || list_any (λ (v : ℕ). v == u) c.args.elsewhere.now in
    let e : c.is_barred.result ≡ true = search rules in
    let queued = c.in_ok-position.ensures.queued in (
      none_further c.args.member.now barred c.loop.from c.in_ok-position.position
          c.loop.invariant.0 queued (sym c.is_barred.ensures ∙ e),
      omega (arith, c.loop.invariant.1, queued.0),
      c.loop.invariant.2,
    )

pub returns : goal.returns
returns c =
    let barred = λ (u : ℕ). has_failed c.args.pending.now u || list_any (λ (v : ℕ). v == u) c.args.elsewhere.now in
    none_left c.args.member.now barred c.loop.from c.loop.invariant.0
    (omega (arith, c.loop.invariant.1, c.loop-test.false, c.loop.invariant.2))
