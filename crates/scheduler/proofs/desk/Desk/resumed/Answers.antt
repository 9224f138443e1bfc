use Rattle.std.proofs.Common.{◌≡◌, rules, true}
use Rattle.scheduler.proofs.Least.{resumed_at}
use Rattle.scheduler.proofs.desk.Desk.resumed.Goals as goal

pub returns-in-Some-clause-wish : goal.returns-in-Some-clause-wish
returns-in-Some-clause-wish c =
    let resumes : c.args.self.now.resumes ≡ true = search rules in
    resumed_at c.args.member.now c.args.self.now c.args.now c.in-Some.position c.claim_at.result
    resumes c.in-Some.ensures c.claim_at.ensures.wish
