use Rattle.protocol.proofs.MembersStay.{members_stay}
use Rattle.protocol.proofs.OneAnswer.{one_answer}
use Rattle.protocol.proofs.laws.members_answer.Goals as goal

pub returns-clause-one : goal.returns-clause-one
returns-clause-one c = one_answer

pub returns-clause-member : goal.returns-clause-member
returns-clause-member c = members_stay
