use Rattle.program_io.proofs.Beginnings.{HasTaken}
use Rattle.program_io.proofs.printing.print.Given as goal

abbrev pub invariant-loop : goal.invariant-loop
invariant-loop g l = HasTaken (g.O.Write.contents l.initial.out) (g.O.Write.contents l.out) l.initial.rest l.rest
