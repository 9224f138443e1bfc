use Rattle.std.proofs.Common.{List, arith, subst, sym}
use Rattle.std.proofs.lemmas.List.{take_all}
use Rattle.std.proofs.lemmas.List.Elements.{All-nil}
use Rattle.std.specs.Prelude.{All}
use Rattle.dpbr_wayon.specs.inside.Sound.{AreTextFiles, HaveTextNames}
use Rattle.dpbr_wayon.proofs.Growing.{one_more}
use Rattle.faults.specs.Bytes.{Text}
use Rattle.package_record.specs.Content.{NamedFile}
use Rattle.protocol.specs.Given.{Given}
use Rattle.traces.specs.Again.{IsTextPackage}
use Rattle.dpbr_wayon.proofs.writable.packages_can_be_written.Goals as goal

pub loop-package-init : goal.loop-package-init
loop-package-init c = λ text. All-nil IsTextPackage

pub loop-package-preserved : goal.loop-package-preserved
loop-package-preserved c = λ text.
    let given = c.as_slice-given.result.now in
    let i = c.loop-package.package-index in
    let p = c.package-item.result in
    let lt = c.loop-package-test.true in
    one_more IsTextPackage given i p lt c.package-item.is (c.loop-package.invariant text)
    (c.package_can_be_written.ensures
    (subst (λ (g : Text × List NamedFile). HaveTextNames g.1) (sym c.package-item.is) (text i p lt)))

pub returns : goal.returns
returns c = λ text.
    subst (λ (l : Given). All IsTextPackage l) c.as_slice-given.ensures
    (subst (λ (l : Given). All IsTextPackage l)
    (take_all c.loop-package.package-index c.as_slice-given.result.now
    (omega (arith, c.loop-package-test.false)))
    (c.loop-package.invariant (subst AreTextFiles (sym c.as_slice-given.ensures) text)))
