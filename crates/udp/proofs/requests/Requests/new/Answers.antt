use Rattle.udp.proofs.RequestLemmas.{none_alone}
use Rattle.udp.proofs.requests.Requests.new.Goals as goal

pub returns : goal.returns
returns c = c.in_ok-vec.ensures.items_if_clones_equal (none_alone _ (λ r is. absurd is))
