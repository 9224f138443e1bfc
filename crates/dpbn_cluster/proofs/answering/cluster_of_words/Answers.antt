use Rattle.std.proofs.Common.{inr}
use Rattle.dpbn_cluster.proofs.answering.cluster_of_words.Goals as goal

pub returns-clause-refused : goal.returns-clause-refused
returns-clause-refused g c = inr (inr c.in-Err.ensures.refused)
