use Rattle.std.proofs.Common.{◌≡◌}
use Rattle.member.proofs.jobs.sign_needed.Given as goal

abbrev pub invariant-loop-position : goal.invariant-loop-position
invariant-loop-position l = l.known ≡ l.fn.known
