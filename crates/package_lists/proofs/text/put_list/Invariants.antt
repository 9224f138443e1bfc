use Rattle.std.proofs.Common.{◌≡◌, ◌++◌, flat_map, take}
use Rattle.package_lists.specs.ListText.{record_lines}
use Rattle.package_lists.proofs.text.put_list.Given as goal

abbrev pub invariant-loop-package : goal.invariant-loop-package
invariant-loop-package l = l.text.items ≡ l.initial.text.items ++ flat_map record_lines (take l.package-index l.list)
