use Rattle.std.proofs.Common.{◌≡◌, ◌++◌, flat_map, take}
use Rattle.dpbr_run.specs.Events.{agreed_part}
use Rattle.dpbr_run.proofs.lines.put_agreed.Given as goal

abbrev pub invariant-loop-package : goal.invariant-loop-package
invariant-loop-package l =
    l.text.items ≡ l.initial.text.items ++ flat_map agreed_part (take l.package-index l.packages)
