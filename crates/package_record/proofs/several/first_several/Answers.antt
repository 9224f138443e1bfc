use Rattle.std.proofs.lemmas.Result.{err_from_is_err_and}
use Rattle.package_record.specs.BuildReading.{packages_of, several_of}
use Rattle.package_record.specs.declared.RecordFault.TheVariants.{Memory}
use Rattle.package_record.proofs.NextRecords.{passed_on, several_is, several_unread}
use Rattle.package_record.proofs.HeaderLines.{failed}
use Rattle.package_record.proofs.several.first_several.Goals as goal

pub returns-in_err-count : goal.returns-in_err-count
returns-in_err-count c =
    let text = c.args.text.now in
    let told = err_from_is_err_and c.from_residual.result c.from_residual.ensures.1 in
    rw told.1 (passed_on Memory told.0 (packages_of text) (several_of text) (several_unread text told.0) (failed c.in_err-count.field-0.0 told.0 (packages_of text) told.2 c.in_err-count.ensures))

pub returns : goal.returns
returns c = rw (several_is c.args.text.now (c.in_ok-count.count, c.in_ok-count.behind.now) c.in_ok-count.ensures) c.read_records.ensures
