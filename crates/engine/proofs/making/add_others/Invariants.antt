use Rattle.std.proofs.Common.{◌≡◌, ◌++◌, filter, not, take}
use Rattle.engine.specs.Units.{is_in}
use Rattle.engine.proofs.making.add_others.Given as goal

abbrev pub invariant-loop-position : goal.invariant-loop-position
invariant-loop-position l = l.needed.items ≡ l.fn.needed.items ++ filter (λ d. not (is_in l.packages d)) (take l.position-index l.positions)
