use Rattle.dpbn_node.proofs.RepeatLemmas.{faults_are_counted}
use Rattle.dpbn_node.proofs.laws.faults_are_counted.Goals as goal

pub returns : goal.returns
returns c = faults_are_counted
