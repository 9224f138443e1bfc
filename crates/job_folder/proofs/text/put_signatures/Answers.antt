use Rattle.package_record.specs.Content.{built_line}
use Rattle.package_record.proofs.Texts.{ended_none, ended_next}
use Rattle.job_folder.proofs.text.put_signatures.Goals as goal

pub loop-signature-init : goal.loop-signature-init
loop-signature-init c = ended_none _

pub loop-signature-preserved : goal.loop-signature-preserved
loop-signature-preserved c =
    ended_next built_line _ _ _ c.args.signatures.now c.loop-signature.signature-index c.signature-item.result c.loop-signature-test.true c.signature-item.is c.loop-signature.invariant c.in_ok-put_signature.ensures
