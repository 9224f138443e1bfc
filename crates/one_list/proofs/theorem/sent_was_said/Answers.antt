use Rattle.one_list.proofs.sent.NothingForeign.{never_foreign}
use Rattle.one_list.proofs.sent.MessageHeaders.{headers_are_equal, sent_was_said}
use Rattle.one_list.proofs.theorem.sent_was_said.Goals as goal
use Rattle.package_record.proofs.BuildsRead.{build_is_read}

pub returns-clause-said : goal.returns-clause-said
returns-clause-said c = λ division weights acts w n made of m s. sent_was_said division weights acts
    w made of m build_is_read n s

pub returns-clause-headers : goal.returns-clause-headers
returns-clause-headers c = λ division weights acts w made of m. headers_are_equal division weights
    acts w made of m build_is_read

pub returns-clause-foreign : goal.returns-clause-foreign
returns-clause-foreign c = λ division weights acts w e f made of local m r. never_foreign division
    weights acts w made of m build_is_read local e f r
