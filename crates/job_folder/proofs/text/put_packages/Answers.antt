use Rattle.package_record.proofs.Texts.{ended_none, ended_next}
use Rattle.job_folder.specs.Tasks.{package_line}
use Rattle.job_folder.proofs.text.put_packages.Goals as goal

pub loop-path-init : goal.loop-path-init
loop-path-init c = ended_none _

pub loop-path-preserved : goal.loop-path-preserved
loop-path-preserved c =
    ended_next package_line _ _ _ c.args.paths.now c.loop-path.path-index c.path-item.result c.loop-path-test.true c.path-item.is c.loop-path.invariant c.in_ok-put_package.ensures
