use Rattle.std.proofs.Common.{List, ◌<◌, ◌++◌, get_or, length, sym, ap, ◌∙◌, arith}
use Rattle.std.proofs.lemmas.List.{take_all}
use Rattle.package_record.specs.Build.{lines_before, records_text}
use Rattle.package_record.specs.Content.{Content}
use Rattle.package_record.proofs.BuildTexts.{text_next, text_parts}
use Rattle.wire.proofs.cuts.Cuts.of.Goals as goal

pub loop-record-preserved : goal.loop-record-preserved
loop-record-preserved c =
    let cs = c.args.build in
    let is = c.packages-record-items.ensures.records in
    let below : c.loop-record.record-index < length cs = omega (arith, c.loop-record-test.true, ap length is) in
    let here = c.record-item.is ∙ ap (λ (ds : List Content). get_or ds c.loop-record.record-index c.record-item.result) is in
    record {
      cut = c.in_ok-put_record.ensures.cut;
      text = text_next (lines_before (length cs)) _ _ cs c.loop-record.record-index c.record-item.result below here c.loop-record.invariant.text c.in_ok-put_record.ensures.text;
    }

pub returns-clause-text : goal.returns-clause-text
returns-clause-text c =
    let cs = c.args.build in
    c.loop-record.invariant.text
    ∙ ap (λ (ds : List Content). lines_before (length cs) ++ records_text ds) (take_all c.loop-record.record-index cs (omega (arith, c.loop-record-test.false, ap length c.packages-record-items.ensures.records)))
    ∙ sym (text_parts cs)
