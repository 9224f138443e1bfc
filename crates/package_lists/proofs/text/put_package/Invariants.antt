use Rattle.std.proofs.Common.{◌≡◌, ◌++◌, flat_map, take}
use Rattle.package_lists.specs.ListText.{built_line}
use Rattle.package_lists.proofs.text.put_package.Given as goal

abbrev pub invariant-loop-dep : goal.invariant-loop-dep
invariant-loop-dep l = l.text.items ≡ l.initial.text.items ++ flat_map built_line (take l.dep-index l.dep-items)
