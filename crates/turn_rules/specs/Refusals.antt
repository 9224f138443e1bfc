-- The numbers, places and causes of a turn's refusals.
use Rattle.std.specs.Prelude.{ℕ, Option, None, Some}
use Rattle.node.specs.Refusals as node
use Rattle.turn_rules.specs.declared.fault.TurnFault.{TurnFault}
use Rattle.turn_rules.specs.declared.fault.TurnFault.TheVariants.{Memory, Node, Down, NotSent, NotFresh}

-- the number that each refusal is reported with
abbrev pub number_of : TurnFault → ℕ
number_of Memory = 1
number_of (Node f) = node.number_of f
number_of (Down k) = 1001
number_of NotSent = 1202
number_of NotFresh = 1203

-- the node that went down
abbrev pub place_of : TurnFault → Option ℕ
place_of Memory = None
place_of (Node f) = None
place_of (Down k) = Some k
place_of NotSent = None
place_of NotFresh = None

-- the number of the refusal that caused it
abbrev pub cause_of : TurnFault → Option ℕ
cause_of Memory = None
cause_of (Node f) = node.cause_of f
cause_of (Down k) = None
cause_of NotSent = Some 1302
cause_of NotFresh = None
