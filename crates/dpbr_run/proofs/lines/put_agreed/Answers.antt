use Rattle.std.proofs.Common.{◌∙◌, ◌++◌, ap, append_assoc, codes}
use Rattle.faults.specs.Bytes.{Text}
use Rattle.dpbr_run.specs.Events.{agreed_part}
use Rattle.package_lists.proofs.FlatLines.{flat_next}
use Rattle.dpbr_run.proofs.lines.put_agreed.Goals as goal

pub loop-package-preserved : goal.loop-package-preserved
loop-package-preserved c =
    let path : Text = c.package-item.result.path in
    flat_next agreed_part _ _ _ c.args.packages.now c.loop-package.package-index c.package-item.result
    c.loop-package-test.true c.package-item.is c.loop-package.invariant
    (c.in_ok-write_to.ensures.ok ∙ ap (λ (p : Text). c.extend_from_slice.new.self.items ++ p) c.path.ensures.path
    ∙ ap (λ (t : Text). t ++ path) c.in_ok-extend_from_slice.ensures.items
    ∙ append_assoc c.loop-package.text.items (codes " agreed ") path)
