use Rattle.std.proofs.Common.{rules}
use Rattle.stable_record.proofs.opening.synced_bytes.Goals as goal

pub returns-clause-synced : goal.returns-clause-synced
returns-clause-synced g c = search rules
