use Rattle.std.proofs.Common.{rules}
use Rattle.dpbr_audit.proofs.text.audit_list.Goals as goal

pub returns-clause-ok : goal.returns-clause-ok
returns-clause-ok c = search rules
