use Rattle.std.proofs.Common.{All, List, Option, subst, ◌∙◌, arith}
use Rattle.std.proofs.lemmas.List.{take_all}
use Rattle.std.proofs.lemmas.List.Elements.{All-more}
use Rattle.package_record.specs.Content.{AreFileNames, names_of}
use Rattle.package_record.specs.Making.{names_fault}
use Rattle.package_record.specs.declared.RecordFault.{RecordFault}
use Rattle.package_record.specs.declared.build.Package.{Package}
use Rattle.package_record.proofs.NextRecords.{fault_none, given_behind}
use Rattle.package_record.proofs.gathering.test_all_names.Goals as goal

abbrev bad_name : Package → Option RecordFault
bad_name p = names_fault (names_of p.files)

pub loop-package-preserved : goal.loop-package-preserved
loop-package-preserved c =
    let ps = c.args.packages.now in
    let p = c.package-item.result in
    let named = rw c.as_slice.ensures at c.in_ok-test_names.ensures.names in
    let exact = rw c.as_slice.ensures at c.in_ok-test_names.ensures.exact in
    record {
      names = All-more (λ (p : Package). AreFileNames (names_of p.files)) ps c.loop-package.package-index p c.loop-package-test.true c.loop-package.invariant.names (rw (← c.package-item.is) named);
      first = c.loop-package.invariant.first ∙ given_behind bad_name ps c.loop-package.package-index p c.loop-package-test.true c.package-item.is (fault_none (bad_name p) tt tt exact);
    }

pub returns-clause-names : goal.returns-clause-names
returns-clause-names c =
    let P : List Package → Type 0 = All (λ (p : Package). AreFileNames (names_of p.files)) in
    subst P (take_all c.loop-package.package-index c.args.packages.now (omega (arith, c.loop-package-test.false))) c.loop-package.invariant.names
