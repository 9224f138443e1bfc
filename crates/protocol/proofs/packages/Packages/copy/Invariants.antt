use Rattle.std.proofs.Common.{◌≡◌, take}
use Rattle.protocol.proofs.packages.Packages.copy.Given as goal

abbrev pub invariant-loop-files : goal.invariant-loop-files
invariant-loop-files l = l.items.items ≡ take l.files-index l.all
