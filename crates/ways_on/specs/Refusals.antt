-- The numbers and causes of the refusals.
use Rattle.std.specs.Prelude.{ℕ, Option, None}
use Rattle.protocol.specs.Refusals as members
use Rattle.ways_on.specs.declared.fault.WayFault.{WayFault}
use Rattle.ways_on.specs.declared.fault.WayFault.TheVariants.{Memory, NoSuchNode, NodeDown, NotQueued, NoMajority, Refused}

-- the number of each refusal
abbrev pub number_of : WayFault → ℕ
number_of Memory = 1
number_of NoSuchNode = 1301
number_of NodeDown = 1303
number_of NoMajority = 1306
number_of NotQueued = 1307
number_of (Refused r) = members.number_of r

-- the number of the underlying refusal, if there is one
abbrev pub cause_of : WayFault → Option ℕ
cause_of Memory = None
cause_of NoSuchNode = None
cause_of NodeDown = None
cause_of NoMajority = None
cause_of NotQueued = None
cause_of (Refused r) = members.cause_of r
