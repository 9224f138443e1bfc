use Rattle.std.proofs.Common.{◌+◌, List}
use Rattle.auditing.specs.declared.entry.Entry.{Entry}
use Rattle.faults.specs.Bytes.{Text}
use Rattle.package_lists.specs.List.{AreEntries, IsFirstBadLine, lines_in}
use Rattle.package_lists.specs.declared.list.ListFault.{ListFault}
use Rattle.package_lists.specs.declared.list.ListFault.TheVariants.{Memory, BadList}
use Rattle.package_lists.proofs.OneList.{beginnings, one_list}
use Rattle.package_lists.proofs.laws.lists_and_faults.Goals as goal

pub returns-clause-one_list : goal.returns-clause-one_list
returns-clause-one_list c text xs ys all also = one_list (lines_in text) xs ys all also

pub returns-clause-no_fault : goal.returns-clause-no_fault
returns-clause-no_fault c = no_fault
  where
    no_fault : (text : Text) (entries : List Entry) (e : ListFault) → AreEntries text entries → ¬ IsFirstBadLine text e
    no_fault text entries Memory all bad = bad
    no_fault text entries (BadList n) all (place, counted, bad) = bad.bad (beginnings (lines_in text) entries (place + 1) all)
