use Rattle.std.proofs.Common.{arith}
use Rattle.std.proofs.lemmas.List.Elements.{All-more}
use Rattle.claims.specs.PkgPath.{IsPath}
use Rattle.package_record.specs.Content.{run_line}
use Rattle.package_record.proofs.Texts.{ended_none, ended_next}
use Rattle.package_record.proofs.writing.put_run.Goals as goal

pub loop-path-preserved : goal.loop-path-preserved
loop-path-preserved c = record {
  text = ended_next run_line _ _ _ c.args.paths.now c.loop-path.path-index c.path-item.result c.loop-path-test.true c.path-item.is c.loop-path.invariant.text (rw (← c.as_bytes.ensures.text) c.in_ok-put_field.ensures);
  names = All-more IsPath c.args.paths.now c.loop-path.path-index c.path-item.result c.loop-path-test.true c.loop-path.invariant.names (rw (← c.path-item.is) c.as_bytes.ensures.canonical);
}

pub loop-path-init : goal.loop-path-init
loop-path-init c = record { text = ended_none _; names = λ k d lt. absurd (omega (arith, lt)) }
