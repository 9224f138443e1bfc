use Rattle.std.proofs.Common.{IfSome, inl, subst}
use Rattle.scheduler.specs.Wishing.{IsClaimWished}
use Rattle.scheduler.proofs.desk.Desk.wish.Goals as goal

pub returns-in-Some-clause-wish : goal.returns-in-Some-clause-wish
returns-in-Some-clause-wish c =
    inl (subst (λ o. IfSome o (IsClaimWished c.args.member.now c.args.self.now c.args.now))
    c.in-Some.is c.in_ok-wish.ensures.wish)
