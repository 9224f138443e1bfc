use Rattle.std.proofs.lemmas.Grind.{common_steps}
use Rattle.std.proofs.Common.{refl, arith}
use Rattle.simulator.proofs.Entering.{grown_key}
use Rattle.simulator.proofs.tables.Tables.append_package.Goals as goal

pub returns-in_err-push-clause-grown : goal.returns-in_err-push-clause-grown
returns-in_err-push-clause-grown c =
    let p = c.args.self.now in
    grown_key p (record { sent = p.sent; agreed = c.push.new.self; listed = c.insert.new.self })
    c.in_ok-copy.field-0 refl c.in_err-push.ensures.items
    c.in_ok-insert.ensures.keys

pub returns-in_err-copy-2-clause-grown : goal.returns-in_err-copy-2-clause-grown
returns-in_err-copy-2-clause-grown c =
    let p = c.args.self.now in
    grown_key p (record { sent = p.sent; agreed = p.agreed; listed = c.insert.new.self })
    c.in_ok-copy.field-0 refl refl c.in_ok-insert.ensures.keys

pub returns-in_err-insert-clause-grown : goal.returns-in_err-insert-clause-grown
returns-in_err-insert-clause-grown c = grind (arith, common_steps)

pub returns-in_err-copy-clause-grown : goal.returns-in_err-copy-clause-grown
returns-in_err-copy-clause-grown c = grind (arith, common_steps)
