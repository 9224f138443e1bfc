use Rattle.auditing.proofs.Allowing.{extended, last_follows, shortened}
use Rattle.auditing.proofs.laws.allowed_lists.Goals as goal

pub returns-clause-extended : goal.returns-clause-extended
returns-clause-extended c = λ tree list entry. (
  λ allowed. (shortened tree list entry allowed, last_follows tree list entry allowed),
  λ both. extended tree list entry both.0 both.1,
)
