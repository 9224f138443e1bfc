use Rattle.std.proofs.Common.{rules}
use Rattle.member.proofs.member.Member.test_header.Goals as goal

pub returns-then-ne-clause-ok : goal.returns-then-ne-clause-ok
returns-then-ne-clause-ok c = search rules

pub returns-then-ne-clause-err : goal.returns-then-ne-clause-err
returns-then-ne-clause-err c = search rules

pub returns-then-not-are_below-clause-ok : goal.returns-then-not-are_below-clause-ok
returns-then-not-are_below-clause-ok c = search rules

pub returns-then-not-are_below-clause-err : goal.returns-then-not-are_below-clause-err
returns-then-not-are_below-clause-err c = search rules

pub returns-in-Some-clause-ok : goal.returns-in-Some-clause-ok
returns-in-Some-clause-ok c = search rules

pub returns-in-Some-clause-err : goal.returns-in-Some-clause-err
returns-in-Some-clause-err c = search rules

pub returns-in-None-clause-ok : goal.returns-in-None-clause-ok
returns-in-None-clause-ok c = search rules

pub returns-in-None-clause-err : goal.returns-in-None-clause-err
returns-in-None-clause-err c = search rules
