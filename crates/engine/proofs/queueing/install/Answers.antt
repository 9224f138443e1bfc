use Rattle.engine.proofs.Waiting.{IsInstalling-more, IsInstalling-start}
use Rattle.engine.proofs.queueing.install.Goals as goal

pub loop-unit-init : goal.loop-unit-init
loop-unit-init c =
    rw c.set.ensures (IsInstalling-start c.args.units.now c.args.letters.now c.args.waits.now c.args.needing.now c.args.position c.requires.queueing c.requires.position c.requires.built c.requires.needing)

pub loop-unit-preserved : goal.loop-unit-preserved
loop-unit-preserved c =
    IsInstalling-more c.loop-unit.invariant c.wait_less.new.letters c.wait_less.new.waits c.loop-unit-test.true
    (c.requires.listed c.loop-unit.unit-index 0 c.loop-unit-test.true) c.wait_less.ensures.fitting c.wait_less.ensures.waits c.wait_less.ensures.queued
