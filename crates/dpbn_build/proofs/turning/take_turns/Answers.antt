use Rattle.std.proofs.Common.{subst, sym}
use Rattle.dpbn_build.proofs.Turns.{HaveLed, at_end, none_yet, one_more}
use Rattle.dpbn_build.proofs.turning.take_turns.Goals as goal

pub loop-init : goal.loop-init
loop-init g c =
    none_yet g.D.Disk g.P.Port g.P.BuildPort.noticed g.P.BuildPort.hurried
    c.args.solo.now

pub loop-preserved : goal.loop-preserved
loop-preserved g c =
    subst (λ s. HaveLed g.D.Disk g.P.Port g.P.BuildPort.noticed g.P.BuildPort.hurried
    c.args.solo.now s)
    (sym c.tell_turn.ensures)
    (one_more g.D.Disk g.P.Port g.P.BuildPort.noticed g.P.BuildPort.hurried
    c.args.solo.now c.loop.solo c.take_turn.new.solo c.loop.invariant c.take_turn.ensures)

pub returns-then-is_at_end : goal.returns-then-is_at_end
returns-then-is_at_end g c =
    λ ended. at_end g.D.Disk g.P.Port g.P.BuildPort.noticed g.P.BuildPort.hurried
    c.args.rest c.args.solo.now c.loop.solo c.take_turn.new.solo c.tell_turn.new.solo
    c.loop.invariant c.take_turn.ensures c.tell_turn.ensures
    (c.is_at_end.ensures.ends c.if-is_at_end.true)
