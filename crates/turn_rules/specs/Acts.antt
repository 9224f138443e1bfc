-- What a node does in a turn, as a request to the node.
use Rattle.node.specs.Step.{Asked, Comes, Does}
use Rattle.turn_rules.specs.declared.act.Act.{Act}
use Rattle.turn_rules.specs.declared.act.Act.TheVariants.{Own, Datagram}

-- what the node is asked to do
abbrev pub asked_by : Act → Asked
asked_by (Own input) = Does input
asked_by (Datagram bytes) = Comes bytes.items
