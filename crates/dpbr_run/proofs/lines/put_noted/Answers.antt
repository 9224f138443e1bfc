use Rattle.std.proofs.Common.{append-nil, sym}
use Rattle.dpbr_run.proofs.lines.put_noted.Goals as goal

pub returns-in-Some : goal.returns-in-Some
returns-in-Some c = rw c.in-Some.is c.put_note.ensures

pub returns-in-None : goal.returns-in-None
returns-in-None c = rw c.in-None.is (sym (append-nil c.args.text.now.items))
