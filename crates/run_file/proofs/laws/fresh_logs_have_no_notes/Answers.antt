use Rattle.run_file.proofs.Blanks.{fresh_has_no_notes}
use Rattle.run_file.proofs.laws.fresh_logs_have_no_notes.Goals as goal

pub returns : goal.returns
returns c = fresh_has_no_notes
