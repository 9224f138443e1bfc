use Rattle.dpbn_node.proofs.RequestLemmas.{begins_as_it_asks}
use Rattle.dpbn_node.proofs.sealing.front_of_requests.Goals as goal

pub returns-clause-alone : goal.returns-clause-alone
returns-clause-alone c = begins_as_it_asks
