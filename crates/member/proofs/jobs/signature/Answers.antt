use Rattle.std.proofs.Common.{rules}
use Rattle.member.proofs.jobs.signature.Goals as goal

pub returns-in_err-path : goal.returns-in_err-path
returns-in_err-path c = search rules

pub returns-in_err-name : goal.returns-in_err-name
returns-in_err-name c = search rules

pub returns-in_err-digest : goal.returns-in_err-digest
returns-in_err-digest c = search rules

pub returns : goal.returns
returns c = search rules
