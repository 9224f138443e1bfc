use Rattle.std.proofs.Common.{None, Some}
use borrow.Author.Count.{below_more}
use Rattle.scheduler.specs.Wishing.{IsLeastOf}
use Rattle.scheduler.specs.declared.sought.Sought.TheVariants.{InTurn}
use Rattle.scheduler.proofs.Least.{first_at}
use Rattle.scheduler.proofs.desk.Desk.first_in_turn.Goals as goal

pub returns-in-Some-clause-wish : goal.returns-in-Some-clause-wish
returns-in-Some-clause-wish c =
    first_at c.args.member.now c.args.self.now c.args.now c.in-Some.position c.claim_at.result
    c.loop-turn.turn c.loop-turn.invariant c.in-Some.ensures c.claim_at.ensures.wish

pub loop-turn-preserved : goal.loop-turn-preserved
loop-turn-preserved c =
    below_more
    (λ turn. IsLeastOf c.args.self.now c.args.member.now (Some c.args.now) (InTurn turn) None)
    c.loop-turn.turn c.loop-turn.invariant c.in_default.ensures
