use Rattle.std.proofs.lemmas.Result.{err_from_is_err_and}
use Rattle.listing.proofs.Numbers.{path_fault, specs_fault}
use Rattle.listing.proofs.dependency.Dependency.read.Goals as goal

pub returns-in_err-specs : goal.returns-in_err-specs
returns-in_err-specs c =
    let p = err_from_is_err_and c.from_residual.result c.from_residual.ensures.1 in
    rw (p.1, p.2) (specs_fault c.args.line c.args.word.now c.in-Some.fields c.in_err-specs.field-0.0 c.in-Some.ensures c.in_err-specs.ensures)

pub returns-in_err-path : goal.returns-in_err-path
returns-in_err-path c =
    let p = err_from_is_err_and c.from_residual-in_err-path.result c.from_residual-in_err-path.ensures.1 in
    rw (p.1, p.2) (path_fault c.args.line c.args.word.now c.in-Some.fields c.in_ok-specs.specs.items c.in_err-path.field-0.0 c.in-Some.ensures c.in_ok-specs.ensures c.in_err-path.ensures)
