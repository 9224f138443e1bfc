-- What holds of lists of packages.
use Rattle.std.specs.Prelude.{◌≡◌, List}
use Rattle.auditing.specs.declared.entry.Entry.{Entry}
use Rattle.faults.specs.Bytes.{Text}
use Rattle.package_lists.specs.List.{AreEntries, IsFirstBadLine}
use Rattle.package_lists.specs.declared.list.ListFault.{ListFault}

-- a text has at most one list of entries
abbrev pub OnlyOneList : Type 0
OnlyOneList = (text : Text) (xs ys : List Entry) → AreEntries text xs → AreEntries text ys → xs ≡ ys

-- a text that has entries has no first bad line
abbrev pub ListsHaveNoFault : Type 0
ListsHaveNoFault =
    (text : Text) (entries : List Entry) (e : ListFault) → AreEntries text entries
    → ¬ IsFirstBadLine text e
