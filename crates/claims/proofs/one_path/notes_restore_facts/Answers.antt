use Rattle.claims.proofs.Restored.{run_closed, run_held, run_restored}
use Rattle.claims.proofs.one_path.notes_restore_facts.Goals as goal

pub returns-clause-restored : goal.returns-clause-restored
returns-clause-restored g c = λ enough events i. run_restored _ enough events i

pub returns-clause-closed : goal.returns-clause-closed
returns-clause-closed g c = λ enough events i v e. run_closed _ enough events i v e

pub returns-clause-stays : goal.returns-clause-stays
returns-clause-stays g c = λ enough early late i v e. run_held _ enough early late i v e
