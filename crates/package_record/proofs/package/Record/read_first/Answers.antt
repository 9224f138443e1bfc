use Rattle.std.proofs.Common.{ap, sym, ◌∙◌, List, ℕ, Ok}
use Rattle.std.proofs.lemmas.Result.{err_from_is_err_and}
use Rattle.package_record.proofs.HeaderLines.{failed}
use Rattle.package_record.proofs.Whole.{first_taken, front_cut}
use Rattle.package_record.specs.Content.{record_text}
use Rattle.package_record.specs.Views.{content_of}
use Rattle.package_record.specs.Reading.{first_of}
use Rattle.package_record.proofs.package.Record.read_first.Goals as goal

pub of-requires : goal.of-requires
of-requires c = (first_taken c.args.text.now (content_of c.in_ok-fields.fields, c.in_ok-fields.rest.now) c.in_ok-fields.ensures).0

pub returns-clause-text : goal.returns-clause-text
returns-clause-text c =
    let r = content_of c.in_ok-fields.fields in
    let read = first_taken c.args.text.now (r, c.in_ok-fields.rest.now) c.in_ok-fields.ensures in
    rw c.in_ok-of.ensures (read.0, (front_cut c.args.text.now (record_text r) c.in_ok-fields.rest.now _ read.1 c.saturating_sub-length.ensures).1)

pub returns-clause-length : goal.returns-clause-length
returns-clause-length c =
    let r = content_of c.in_ok-fields.fields in
    let read = first_taken c.args.text.now (r, c.in_ok-fields.rest.now) c.in_ok-fields.ensures in
    rw c.in_ok-of.ensures (front_cut c.args.text.now (record_text r) c.in_ok-fields.rest.now _ read.1 c.saturating_sub-length.ensures).0

pub returns-clause-exact : goal.returns-clause-exact
returns-clause-exact c =
    let r = content_of c.in_ok-fields.fields in
    let read = first_taken c.args.text.now (r, c.in_ok-fields.rest.now) c.in_ok-fields.ensures in
    let behind = (front_cut c.args.text.now (record_text r) c.in_ok-fields.rest.now _ read.1 c.saturating_sub-length.ensures).2 in
    rw c.in_ok-of.ensures (c.in_ok-fields.ensures ∙ ap (λ (t : List ℕ). Ok (r, t)) (sym behind))

pub returns-in_err-fields-clause-exact : goal.returns-in_err-fields-clause-exact
returns-in_err-fields-clause-exact c =
    let p = err_from_is_err_and c.from_residual.result c.from_residual.ensures.1 in
    rw p.1 (failed c.in_err-fields.field-0.0 p.0 (first_of c.args.text.now) p.2 c.in_err-fields.ensures)
