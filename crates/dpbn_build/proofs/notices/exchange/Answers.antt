use Rattle.std.proofs.Common.{subst}
use Rattle.dpbn_build.proofs.Exchanged.{one_noticed}
use Rattle.dpbn_build.proofs.notices.exchange.Goals as goal

pub returns-in-Some-clause-exchanged : goal.returns-in-Some-clause-exchanged
returns-in-Some-clause-exchanged g c =
    one_noticed g.P.BuildPort.noticed c.args.solo.now.port c.take_all.new.solo.port
    c.send_notice.new.self c.take_all.ensures.exchanged
    (subst (λ p. g.P.BuildPort.noticed p c.send_notice.new.self) c.port.ensures.value
    c.send_notice.ensures)
