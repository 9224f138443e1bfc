use Rattle.std.proofs.Common.{[], ◌∷◌, ◌++◌, ap, ◌∙◌}
use Rattle.claims.specs.Job as jobs
use Rattle.package_record.specs.Content.{claim_line, ended}
use Rattle.job_folder.specs.Tasks.{host_line}
use Rattle.job_folder.proofs.Lines.{job_told}
use Rattle.job_folder.proofs.text.job_text.Goals as goal

pub returns : goal.returns
returns c =
    job_told c.args.tree.now c.args.job.now _ _ _ c.in_ok-text.ensures
    (c.in_ok-put_host.ensures ∙ ap (λ (job : jobs.Task). c.in_ok-text.text.items ++ ended (host_line job.host ∷ [])) c.job.view_is)
    (c.in_ok-put_claim.ensures ∙ ap (λ (job : jobs.Task). c.put_host.new.out.items ++ ended (claim_line job.claim ∷ [])) c.job.view_is)
