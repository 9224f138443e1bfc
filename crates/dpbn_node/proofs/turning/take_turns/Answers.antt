use Rattle.std.proofs.Common.{subst, sym}
use Rattle.dpbn_node.specs.Node.{HaveTaken}
use Rattle.dpbn_node.proofs.TakenTurns.{none_taken, one_more_taken}
use Rattle.lone_node.specs.Handed.{AllBuilds}
use Rattle.dpbn_node.proofs.turning.take_turns.Goals as goal

pub loop-init : goal.loop-init
loop-init g c =
    none_taken g.D.Disk g.P.Port (AllBuilds c.args.builds.now) c.args.solo.now

pub loop-preserved : goal.loop-preserved
loop-preserved g c =
    subst (λ s. HaveTaken g.D.Disk
    g.P.Port (AllBuilds c.args.builds.now)
    c.taken_after-taken.result c.args.solo.now s)
    (sym c.tell_turn.ensures)
    (one_more_taken g.D.Disk g.P.Port (AllBuilds c.args.builds.now) c.loop.taken
    c.taken_after-taken.result c.args.solo.now c.loop.solo c.take_turn.new.solo c.take_turn.result
    c.loop.invariant c.take_turn.ensures c.taken_after-taken.ensures)
