use Rattle.std.proofs.lemmas.Result.{err_from_is_err_and}
use Rattle.package_record.proofs.HeaderLines.{failed}
use Rattle.package_record.proofs.Whole.{whole_taken}
use Rattle.package_record.specs.Views.{content_of}
use Rattle.package_record.specs.Reading.{whole_of}
use Rattle.package_record.proofs.package.Record.parse.Goals as goal

pub of-requires : goal.of-requires
of-requires c = (whole_taken c.args.text.now (content_of c.in_ok-fields.fields) c.in_ok-fields.ensures).0

pub returns-clause-text : goal.returns-clause-text
returns-clause-text c = rw c.in_ok-of.ensures (whole_taken c.args.text.now (content_of c.in_ok-fields.fields) c.in_ok-fields.ensures)

pub returns-in_err-fields-clause-exact : goal.returns-in_err-fields-clause-exact
returns-in_err-fields-clause-exact c =
    let p = err_from_is_err_and c.from_residual.result c.from_residual.ensures.1 in
    rw p.1 (failed c.in_err-fields.field-0.0 p.0 (whole_of c.args.text.now) p.2 c.in_err-fields.ensures)
