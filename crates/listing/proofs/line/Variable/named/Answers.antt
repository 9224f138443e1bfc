use Rattle.listing.proofs.LineLemmas.{is_no_variable}
use Rattle.listing.proofs.line.Variable.named.Goals as goal

pub returns-else-eq-5 : goal.returns-else-eq-5
returns-else-eq-5 c = is_no_variable c.args.name.now (cc) (cc) (cc) (cc) (cc)
