use Rattle.std.proofs.Common.{subst}
use Rattle.dpbn_build.proofs.Exchanged.{one_noticed, port_set}
use Rattle.dpbn_build.proofs.notices.take_all.Goals as goal

pub returns-in_default-clause-exchanged : goal.returns-in_default-clause-exchanged
returns-in_default-clause-exchanged g c =
    one_noticed g.P.BuildPort.noticed c.args.solo.now.port c.loop.solo.port c.take_notice.new.self
    c.loop.invariant.1
    (subst (λ p. g.P.BuildPort.noticed p c.take_notice.new.self) c.port.ensures.value
    c.take_notice.ensures)

pub loop-preserved : goal.loop-preserved
loop-preserved g c = (
  port_set c.args.solo.now c.loop.solo c.take_notice.new.self c.loop.invariant.0,
  one_noticed g.P.BuildPort.noticed c.args.solo.now.port c.loop.solo.port
      c.take_notice.new.self c.loop.invariant.1
      (subst (λ p. g.P.BuildPort.noticed p c.take_notice.new.self) c.port.ensures.value
      c.take_notice.ensures),
)
