use Rattle.std.proofs.Common.{◌∙◌, ap, arith, length, subst, sym}
use Rattle.std.specs.Prelude.{IfSome, nat_eq}
use Rattle.std.specs.Map.{lookup}
use Rattle.indexmap.specs.IndexMap.{get}
use Rattle.turn_rules.proofs.Owned.{none_at_first, none_free, none_further, none_left}
use Rattle.scheduler.specs.Waiting.{SeenBy, IsSeen, is_seen}
use Rattle.scheduler.proofs.SeenUnits.{none_freed}
use Rattle.scheduler.proofs.seen.seen_units.Goals as goal

pub loop-init : goal.loop-init
loop-init c =
    let s = c.args.member.now in
    let before : SeenBy = get nat_eq c.args.before.now in (
      λ u. subst (λ es. IfSome (lookup (nat_eq u) es) (IsSeen s before c.args.now u))
          (sym c.new-seen.ensures.empty) tt,
      none_at_first s (is_seen (get nat_eq c.new-seen.result)),
      omega arith,
      omega arith,
      c.len-end.ensures.count ∙ ap length c.tree.ensures,
    )

pub returns-in_default : goal.returns-in_default
returns-in_default c =
    let s = c.args.member.now in (
      c.loop.invariant.0,
      none_free s (is_seen (get nat_eq c.loop.seen)) c.loop.from c.loop.invariant.1
          c.in_default.ensures.queued,
    )

pub loop-preserved : goal.loop-preserved
loop-preserved c =
    let s = c.args.member.now in
    let old : SeenBy = get nat_eq c.loop.seen in
    let new : SeenBy = get nat_eq c.see.new.seen in
    let told = c.in_ok-see.ensures in
    let queued = c.in-Some.ensures.queued in
    let from = c.loop.from in (
      told.since c.loop.invariant.0,
      none_further s (is_seen new) from c.in-Some.position
          (none_freed s (is_seen old) (is_seen new) told.more from c.loop.invariant.1)
          queued told.noticed,
      omega (arith, c.loop.invariant.2, queued.0),
      omega (arith, queued.1),
      c.loop.invariant.4,
    )

pub returns : goal.returns
returns c =
    let s = c.args.member.now in (
      c.loop.invariant.0,
      none_left s (is_seen (get nat_eq c.loop.seen)) c.loop.from c.loop.invariant.1
          (omega (arith, c.loop.invariant.2, c.loop-test.false, c.loop.invariant.4)),
    )
