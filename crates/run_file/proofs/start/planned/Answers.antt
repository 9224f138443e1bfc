use Rattle.run_file.proofs.Started.{is_planned}
use Rattle.run_file.proofs.start.planned.Goals as goal

pub returns-clause-planned : goal.returns-clause-planned
returns-clause-planned g c =
    is_planned (g.F.LogFolder.gave c.args.folder.now c.args.identity.now.me)
    (g.F.LogFolder.known c.args.folder.now c.args.identity.now.me) c.args.identity.now
    c.args.wanted.now.text.now c.args.wanted.now.has_key c.args.wanted.now.is_continued
    c.in_ok-disk.disk c.found_in.new.disk c.in_ok-log.log c.in_ok-plan.plan
    c.in_ok-disk.ensures.opened c.in_ok-log.ensures.found c.in_ok-log.ensures.same
    c.in_ok-plan.ensures.plan
