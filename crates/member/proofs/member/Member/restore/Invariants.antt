use Rattle.member.proofs.Restoring.{IsRestoring}
use Rattle.member.proofs.member.Member.restore.Given as goal

abbrev pub invariant-loop-note : goal.invariant-loop-note
invariant-loop-note l = IsRestoring l.fn.self l.self-inside l.yielded
