use Rattle.std.proofs.Common.{List, ◌<◌, ◌++◌, get_or, length, take, sym, ap, ◌∙◌, refl, append_assoc, arith}
use Rattle.faults.specs.Bytes.{Text}
use Rattle.package_record.specs.Build.{lines_before, records_text}
use Rattle.package_record.specs.Content.{Content, record_text}
use Rattle.package_record.proofs.BuildTexts.{text_next}
use Rattle.package_record.proofs.matching.behind_build.Goals as goal

pub loop-record-preserved : goal.loop-record-preserved
loop-record-preserved c =
    let cs = c.args.build.now in
    let is = c.packages-record-items.ensures.records in
    let below : c.loop-record.record-index < length cs = omega (arith, c.loop-record-test.true, ap length is) in
    let here = c.record-item.is ∙ ap (λ (ds : List Content). get_or ds c.loop-record.record-index c.record-item.result) is in
    let before = lines_before (length cs) ++ records_text (take c.loop-record.record-index cs) in
    let own = record_text c.record-item.result in
    let rest = c.in_ok-rest-2.rest.now in
    c.loop-record.invariant
    ∙ ap (λ (t : Text). before ++ t) c.in_ok-rest-2.ensures
    ∙ sym (append_assoc before own rest)
    ∙ ap (λ (t : Text). t ++ rest) (text_next (lines_before (length cs)) before (before ++ own) cs c.loop-record.record-index c.record-item.result below here refl refl)
