use Rattle.std.proofs.Common.{◌≡◌, arith, subst}
use Rattle.dpbn_cluster.proofs.Running.{none_ran, ran_more, stays}
use Rattle.dpbn_cluster.specs.Running.{HasRun}
use Rattle.dpbn_cluster.proofs.turning.run.Goals as goal

pub loop-init : goal.loop-init
loop-init g c = none_ran g.P.Port c.args.builds.now c.args.cluster.now

pub loop-preserved : goal.loop-preserved
loop-preserved g c =
    ran_more g.P.Port c.args.builds.now c.args.cluster.now c.loop.cluster
    c.take_turn.new.cluster c.loop.counter c.loop.invariant c.take_turn.ensures

pub returns-clause-ran : goal.returns-clause-ran
returns-clause-ran g c =
    let all : c.loop.counter ≡ c.args.turns = omega arith in
    subst (HasRun g.P.Port c.args.builds.now c.args.cluster.now c.loop.cluster) all
    c.loop.invariant

pub returns-clause-fixed : goal.returns-clause-fixed
returns-clause-fixed g c =
    stays g.P.Port c.args.builds.now c.args.cluster.now c.loop.cluster
    c.loop.invariant.answers c.loop.invariant.led
