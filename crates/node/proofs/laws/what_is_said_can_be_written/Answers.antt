use Rattle.node.proofs.ranges.Restored.{restored_written}
use Rattle.node.proofs.ranges.Written.{answers_written}
use Rattle.node.proofs.laws.what_is_said_can_be_written.Goals as goal

pub returns-clause-answers : goal.returns-clause-answers
returns-clause-answers c = answers_written

pub returns-clause-restored : goal.returns-clause-restored
returns-clause-restored c = restored_written
