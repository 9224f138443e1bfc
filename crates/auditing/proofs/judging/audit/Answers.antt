use Rattle.std.proofs.Common.{IfOk, subst}
use Rattle.listing.specs.Tree.{Tree}
use Rattle.auditing.specs.Verdicts.{IsVerdict}
use Rattle.auditing.proofs.judging.audit.Goals as goal

pub returns : goal.returns
returns c = subst (λ (t : Tree). IfOk c.audit_entries.result (IsVerdict t c.args.list.now)) c.in_ok-standing.ensures.tree c.audit_entries.ensures
