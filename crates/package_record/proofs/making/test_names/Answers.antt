use Rattle.std.proofs.Common.{Option, inr, ap, arith, below_more, ◌∙◌}
use Rattle.faults.specs.Answers.{unless_fault}
use Rattle.package_record.specs.declared.RecordFault.{RecordFault}
use Rattle.package_record.proofs.FirstBad.{count_names, first_bad_name, names_more, no_bad_name, said_of_name}
use Rattle.package_record.proofs.making.test_names.Goals as goal

pub returns-then-not-branch-clause-exact : goal.returns-then-not-branch-clause-exact
returns-then-not-branch-clause-exact c =
    let files = c.args.files.now in
    let i = c.loop-index.index in
    let bad = said_of_name files i c.index-files-index.result _ _ _ c.loop-index-test.true c.index-files-index.is c.loop-index.invariant.entered c.as_slice.ensures.value c.in_ok-admit.ensures.is_next in
    inr (ap (λ (o : Option RecordFault). unless_fault o tt) (first_bad_name _ i (omega (arith, count_names files, c.loop-index-test.true)) c.loop-index.invariant.good (bad ∙ c.if-not-branch.true)))

pub loop-index-preserved : goal.loop-index-preserved
loop-index-preserved c =
    let files = c.args.files.now in
    let i = c.loop-index.index in
    let good = said_of_name files i c.index-files-index.result _ _ _ c.loop-index-test.true c.index-files-index.is c.loop-index.invariant.entered c.as_slice.ensures.value c.in_ok-admit.ensures.is_next in
    record {
      entered = names_more files i c.index-files-index.result _ _ _ c.loop-index-test.true c.index-files-index.is c.loop-index.invariant.entered c.as_slice.ensures.value (c.in_ok-admit.ensures.entered c.if-not-branch.false);
      good = below_more _ _ c.loop-index.invariant.good (good ∙ c.if-not-branch.false);
    }

pub returns-clause-exact : goal.returns-clause-exact
returns-clause-exact c = ap (λ (o : Option RecordFault). unless_fault o tt) (no_bad_name _ (λ k lt. c.loop-index.invariant.good k (omega (arith, count_names c.args.files.now, c.loop-index-test.false, lt))))

pub returns-clause-names : goal.returns-clause-names
returns-clause-names c = λ k lt. c.loop-index.invariant.good k (omega (arith, count_names c.args.files.now, c.loop-index-test.false, lt))
