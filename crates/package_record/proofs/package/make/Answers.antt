use Rattle.std.proofs.lemmas.Result.{err_from_is_err_and}
use Rattle.package_record.proofs.NextRecords.{fault_none}
use Rattle.package_record.proofs.package.make.Goals as goal

pub returns : goal.returns
returns c =
    let none = fault_none _ tt tt (rw c.as_slice.ensures.value at c.in_ok-test_names.ensures.exact) in
    rw none (rw c.in_ok-files.ensures at c.in_ok-record.ensures.record)

pub returns-in_err-record : goal.returns-in_err-record
returns-in_err-record c =
    let none = fault_none _ tt tt (rw c.as_slice.ensures.value at c.in_ok-test_names.ensures.exact) in
    let told = rw c.in_ok-files.ensures at c.in_err-record.ensures.record in
    let p = err_from_is_err_and c.from_residual-in_err-record.result c.from_residual-in_err-record.ensures.1 in
    rw (p.1, p.2, none) told
