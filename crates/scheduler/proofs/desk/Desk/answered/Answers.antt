use Rattle.std.proofs.Common.{◌≡◌, ◌<◌, ◌∙◌, arith, get_or, length, rules, sym, true}
use Rattle.scheduler.proofs.Among.{has_its_unit}
use Rattle.scheduler.proofs.desk.Desk.answered.Goals as goal

pub returns-then-branch-clause-unit : goal.returns-then-branch-clause-unit
returns-then-branch-clause-unit c =
    let out = c.args.self.now.out.items in
    let items = c.deref-posted-items.ensures.value in
    let within : c.loop-posted.posted-index < length out = rw (← items) (omega arith) in
    let is : c.posted-item.result ≡ get_or out c.loop-posted.posted-index c.posted-item.result =
    rw (← items) c.posted-item.is in
    let has : c.has_rounds.result ≡ true = search rules in (
      has_its_unit out c.loop-posted.posted-index c.posted-item.result within is,
      sym c.waits_for.ensures ∙ c.if-waits_for.false,
      sym c.has_rounds.ensures ∙ has,
    )
