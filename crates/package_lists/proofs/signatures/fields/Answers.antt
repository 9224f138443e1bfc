use Rattle.package_lists.proofs.Spelling.{more_fields}
use Rattle.package_lists.proofs.signatures.fields.Goals as goal

pub returns-in-Some : goal.returns-in-Some
returns-in-Some c =
    more_fields c.args.text.now c.in_ok-path.path.now c.in_ok-path.behind.now c.in_ok-name.name.now c.in_ok-name.digest.now c.in-Some.field-0.0.now c.in-Some.field-0.1.now
    c.in_ok-path.ensures.pieces c.in_ok-name.ensures.pieces c.in-Some.ensures.pieces
