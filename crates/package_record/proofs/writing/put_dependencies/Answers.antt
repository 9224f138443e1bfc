use Rattle.std.proofs.Common.{arith}
use Rattle.std.proofs.lemmas.List.Elements.{All-more}
use Rattle.package_record.specs.Content.{IsDep, built_line}
use Rattle.package_record.proofs.Texts.{ended_none, ended_next}
use Rattle.package_record.proofs.writing.put_dependencies.Goals as goal

pub loop-dep-preserved : goal.loop-dep-preserved
loop-dep-preserved c = record {
  text = ended_next built_line _ _ _ c.args.deps.now c.loop-dep.dep-index c.dep-item.result c.loop-dep-test.true c.dep-item.is c.loop-dep.invariant.text c.in_ok-put_built.ensures.text;
  names = All-more IsDep c.args.deps.now c.loop-dep.dep-index c.dep-item.result c.loop-dep-test.true c.loop-dep.invariant.names (rw (← c.dep-item.is) c.in_ok-put_built.ensures.names);
}

pub loop-dep-init : goal.loop-dep-init
loop-dep-init c = record { text = ended_none _; names = λ k d lt. absurd (omega (arith, lt)) }
