use Rattle.std.proofs.Common.{◌≡◌, ◌<◌, ap, arith, eqb-true, false, get_or, inl, length, refl, subst}
use Rattle.std.specs.Prelude.{nat_eq}
use Rattle.std.proofs.lemmas.List.Elements.{All-get_or}
use Rattle.indexmap.specs.IndexMap.{get}
use Rattle.indexmap.specs.IndexSet.{contains}
use Rattle.scheduler.specs.declared.desk.Desk.{Desk}
use Rattle.scheduler.proofs.Left.{still_left}
use Rattle.scheduler.proofs.desk.Desk.retry.Goals as goal

pub loop-unit-init : goal.loop-unit-init
loop-unit-init c = (refl, λ u. inl (refl, refl))

pub loop-unit-preserved : goal.loop-unit-preserved
loop-unit-preserved c =
    let was = c.args.self.now in
    let old = c.loop-unit.self in
    let units = c.in_ok-unmarked.unmarked.items in
    let i = c.loop-unit.unit-index in
    let items = c.deref-unit-items.ensures.value in
    let within : i < length units = rw (← items) (omega arith) in
    let unit = get_or c.deref-unit-items.result.now i 0 in
    let written : contains nat_eq was.unwritten unit ≡ false =
    rw items (All-get_or (λ u. contains nat_eq was.unwritten u ≡ false) units i 0 within
    c.in_ok-unmarked.ensures.written) in
    let failed = c.swap_remove.new.self in
    let elsewhere = c.swap_remove-in-loop-unit.new.self in (
      ap (λ (d : Desk). record d { failed = failed; failed_elsewhere = elsewhere })
          c.loop-unit.invariant.0,
      λ q. still_left (nat_eq unit q) (contains nat_eq was.unwritten q) (get nat_eq old.failed q)
          (get nat_eq was.failed q) (get nat_eq failed q) (get nat_eq old.failed_elsewhere q)
          (get nat_eq was.failed_elsewhere q) (get nat_eq elsewhere q)
          (c.swap_remove.ensures.updates.0 q)
          (c.swap_remove-in-loop-unit.ensures.updates.0 q)
          (λ e. subst (λ v. contains nat_eq was.unwritten v ≡ false) (eqb-true unit q e) written)
          (c.loop-unit.invariant.1 q),
    )
