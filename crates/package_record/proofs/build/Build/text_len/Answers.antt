use Rattle.std.proofs.Common.{◌<◌, ◌≤◌, ◌+◌, List, get_or, length, sym, ap, subst, ◌∙◌, arith}
use Rattle.std.proofs.lemmas.List.{take_all}
use Rattle.package_record.specs.Build.{build_text, records_text}
use Rattle.package_record.specs.Content.{Content, most_bytes, record_text}
use Rattle.package_record.proofs.BuildTexts.{text_length}
use Rattle.package_record.proofs.TextLengths.{one_more_record, part_within}
use Rattle.package_record.proofs.build.Build.text_len.Goals as goal

pub record_len-requires : goal.record_len-requires
record_len-requires c =
    let cs = c.args.self.now in
    let is = c.packages-record-items.ensures.records in
    let i = c.loop-record.record-index in
    let below : i < length cs = omega (arith, c.loop-record-test.true, ap length is) in
    let here = c.record-item.is ∙ ap (λ (ds : List Content). get_or ds i c.record-item.result) is in
    subst (λ (d : Content). length (record_text d) ≤ most_bytes) (sym here)
    ((c.unit_path-path.ensures.build).records i c.record-item.result below).fits

pub overflow_add-len : goal.overflow_add-len
overflow_add-len c =
    let cs = c.args.self.now in
    let is = c.packages-record-items.ensures.records in
    let i = c.loop-record.record-index in
    let below : i < length cs = omega (arith, c.loop-record-test.true, ap length is) in
    let here = c.record-item.is ∙ ap (λ (ds : List Content). get_or ds i c.record-item.result) is in
    let more = one_more_record cs i c.record-item.result below here in
    let part = part_within cs (i + 1) in
    let all = text_length cs in
    let fits : length (build_text cs) ≤ 4194304 = (c.unit_path-path.ensures.build).fits in
    omega (arith, more, part, all, fits, c.loop-record.invariant, c.in_ok-len.ensures)

pub loop-record-preserved : goal.loop-record-preserved
loop-record-preserved c =
    let cs = c.args.self.now in
    let is = c.packages-record-items.ensures.records in
    let i = c.loop-record.record-index in
    let below : i < length cs = omega (arith, c.loop-record-test.true, ap length is) in
    let here = c.record-item.is ∙ ap (λ (ds : List Content). get_or ds i c.record-item.result) is in
    let more = one_more_record cs i c.record-item.result below here in
    omega (arith, more, c.loop-record.invariant, c.in_ok-len.ensures)

pub returns-clause-len : goal.returns-clause-len
returns-clause-len c =
    let cs = c.args.self.now in
    let is = c.packages-record-items.ensures.records in
    let i = c.loop-record.record-index in
    let all = ap (λ (ds : List Content). length (records_text ds))
    (take_all i cs (omega (arith, c.loop-record-test.false, ap length is))) in
    omega (arith, c.loop-record.invariant, all, text_length cs)

pub returns-clause-few : goal.returns-clause-few
returns-clause-few c =
    let cs = c.args.self.now in
    let is = c.packages-record-items.ensures.records in
    let i = c.loop-record.record-index in
    let all = ap (λ (ds : List Content). length (records_text ds))
    (take_all i cs (omega (arith, c.loop-record-test.false, ap length is))) in
    let fits : length (build_text cs) ≤ 4194304 = (c.unit_path-path.ensures.build).fits in
    omega (arith, c.loop-record.invariant, all, text_length cs, fits)
