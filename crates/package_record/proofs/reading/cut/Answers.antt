use Rattle.package_record.proofs.Cuts.{cut_found, no_cut}
use Rattle.package_record.proofs.reading.cut.Goals as goal

pub returns-in-Some : goal.returns-in-Some
returns-in-Some c = cut_found c.args.byte c.args.line c.args.text.now c.in-Some.front.now c.in-Some.behind.now c.in-Some.ensures.halves

pub returns-in-None : goal.returns-in-None
returns-in-None c = rw c.bad_line.ensures (no_cut c.args.byte c.args.line c.args.text.now c.in-None.ensures.halves)
