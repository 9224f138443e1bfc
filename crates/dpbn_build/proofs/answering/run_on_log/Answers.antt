use Rattle.std.proofs.lemmas.Result.{err_from_is_err_and}
use Rattle.dpbn_build.proofs.answering.run_on_log.Goals as goal

pub returns-in_err-solo-clause-refused : goal.returns-in_err-solo-clause-refused
returns-in_err-solo-clause-refused g c =
    let p = err_from_is_err_and c.from_residual.result c.from_residual.ensures.1 in
    rw (p.1, p.2) c.in_err-solo.ensures.refused

pub returns-then-run-clause-built : goal.returns-then-run-clause-built
returns-then-run-clause-built g c = record {
  before = c.in_ok-solo.solo;
  opened = c.in_ok-solo.ensures.opened;
  is = c.run.ensures c.if-run.true;
}
