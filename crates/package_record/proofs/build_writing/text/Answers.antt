use Rattle.std.proofs.Common.{List, ◌++◌, length, sym, ap, ◌∙◌, arith}
use Rattle.std.proofs.lemmas.List.{take_all}
use Rattle.package_record.specs.Build.{lines_before, records_text}
use Rattle.package_record.specs.Content.{Content}
use Rattle.package_record.proofs.BuildTexts.{text_next, text_parts}
use Rattle.package_record.proofs.build_writing.text.Goals as goal

pub loop-record-preserved : goal.loop-record-preserved
loop-record-preserved c =
    let cs = c.args.records.now in
    text_next (lines_before (length cs)) _ _ cs c.loop-record.record-index c.record-item.result c.loop-record-test.true c.record-item.is c.loop-record.invariant c.in_ok-put_text.ensures

pub returns : goal.returns
returns c =
    let cs = c.args.records.now in
    c.loop-record.invariant
    ∙ ap (λ (ds : List Content). lines_before (length cs) ++ records_text ds) (take_all c.loop-record.record-index cs (omega (arith, c.loop-record-test.false)))
    ∙ sym (text_parts cs)
