use Rattle.std.proofs.Common.{rules}
use Rattle.member.proofs.step.MemberStep.note.Goals as goal

pub returns : goal.returns
returns c = search rules
