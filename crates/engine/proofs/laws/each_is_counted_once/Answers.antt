use Rattle.std.proofs.Common.{length}
use Rattle.engine.proofs.Tally.{HasCounted-total}
use Rattle.engine.proofs.laws.each_is_counted_once.Goals as goal

pub returns : goal.returns
returns c = λ s counts are_counts. HasCounted-total s (length s.tree) counts are_counts
