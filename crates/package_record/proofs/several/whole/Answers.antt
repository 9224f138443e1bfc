use Rattle.std.proofs.Common.{Ok, sym, ap, ◌∙◌}
use Rattle.std.proofs.lemmas.Result.{err_from_is_err_and}
use Rattle.faults.specs.Answers.{map_ok}
use Rattle.package_record.specs.BuildReading.{alone, whole_build_of}
use Rattle.package_record.specs.Reading.{whole_of}
use Rattle.package_record.specs.declared.RecordFault.TheVariants.{Memory}
use Rattle.package_record.proofs.NextRecords.{passed_as, whole_of_one, whole_of_several}
use Rattle.package_record.proofs.several.whole.Goals as goal

pub returns-then-is_several : goal.returns-then-is_several
returns-then-is_several c = rw (whole_of_several c.args.text.now (sym c.is_several.ensures ∙ c.if-is_several.true)) c.whole_several.ensures

pub returns-in_err-record : goal.returns-in_err-record
returns-in_err-record c =
    let text = c.args.text.now in
    let e = c.in_err-record.field-0.0 in
    let told = err_from_is_err_and c.from_residual.result c.from_residual.ensures.1 in
    rw told.1 (passed_as Memory e told.0 told.2 (whole_of text) (whole_build_of text)
    (λ h. whole_of_one text (sym c.is_several.ensures ∙ c.if-is_several.false) ∙ ap (map_ok alone) h) c.in_err-record.ensures.exact)

pub returns : goal.returns
returns c =
    whole_of_one c.args.text.now (sym c.is_several.ensures ∙ c.if-is_several.false) ∙ ap (map_ok alone) c.in_ok-record.ensures.exact ∙ ap Ok (sym c.in_ok-alone.ensures)
