use Rattle.std.proofs.Common.{Ok, Option, None, ap, arith, inr, length, refl, sym, ◌≡◌, ◌≤◌, ◌<◌, ◌∙◌}
use Rattle.std.proofs.lemmas.Bool.{le-ltb}
use Rattle.faults.specs.Answers.{unless_fault}
use Rattle.package_record.specs.Content.{Content, most_bytes, record_text}
use Rattle.package_record.specs.Making.{too_large}
use Rattle.package_record.specs.Views.{content_of}
use Rattle.package_record.specs.declared.RecordFault.{RecordFault}
use Rattle.package_record.proofs.BuildsMade.{over as over_limit}
use Rattle.package_record.proofs.package.sized.Goals as goal

pub of-requires : goal.of-requires
of-requires c = record {
  names = c.in_ok-length.ensures.names;
  host = omega arith;
  claim = c.requires.claim;
  built = c.requires.built;
  run = c.requires.run;
  file_names = c.requires.names;
  fits = omega (arith, c.in_ok-length.ensures.length);
}

pub returns-clause-length : goal.returns-clause-length
returns-clause-length c =
    let fits : c.in_ok-length.length ≡ length (record_text (content_of c.args.fields)) = omega (arith, c.in_ok-length.ensures.length) in
    fits ∙ ap (λ (r : Content). length (record_text r)) (sym c.in_ok-made.ensures)

pub returns-then-length-gt-LIMIT-clause-record : goal.returns-then-length-gt-LIMIT-clause-record
returns-then-length-gt-LIMIT-clause-record c =
    let content = content_of c.args.fields in
    let long : most_bytes < length (record_text content) = omega (arith, c.in_ok-length.ensures.length, c.if-length-gt-LIMIT.true) in
    inr (ap (λ (o : Option RecordFault). unless_fault o content) (over_limit (length (record_text content)) long))

pub returns-clause-record : goal.returns-clause-record
returns-clause-record c =
    let content = content_of c.args.fields in
    let within : length (record_text content) ≤ most_bytes = omega (arith, c.in_ok-length.ensures.length, c.if-length-gt-LIMIT.false) in
    let none : too_large (length (record_text content)) ≡ None = rw (le-ltb most_bytes (length (record_text content)) within) refl in
    ap (λ (o : Option RecordFault). unless_fault o content) none ∙ ap (λ (r : Content). Ok r) (sym c.in_ok-made.ensures)
