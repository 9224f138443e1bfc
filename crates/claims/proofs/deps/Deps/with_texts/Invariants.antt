use Rattle.std.proofs.Common.{◌≡◌}
use Rattle.claims.proofs.deps.Deps.with_texts.Given as goal

abbrev pub invariant-loop-dep : goal.invariant-loop-dep
invariant-loop-dep g l = l.items.items ≡ l.yielded
