use Rattle.std.proofs.Common.{◌≡◌, ◌++◌, take}
use Rattle.listing.specs.inside.BarePackages.{listed_positions}
use Rattle.listing.proofs.bare_package.add_positions.Given as goal

abbrev pub invariant-loop-number : goal.invariant-loop-number
invariant-loop-number l = l.found.items ≡ l.fn.found.items ++ listed_positions l.resolutions (take l.number-index l.numbers)
