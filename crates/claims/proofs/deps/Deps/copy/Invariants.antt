use Rattle.std.proofs.Common.{◌≡◌, take}
use Rattle.claims.proofs.deps.Deps.copy.Given as goal

abbrev pub invariant-loop-dep : goal.invariant-loop-dep
invariant-loop-dep l = l.items.items ≡ take l.dep-index l.all
