-- The numbers of the refusals, and their causes.
use Rattle.std.specs.Prelude.{ℕ, Option, None, Some}
use Rattle.protocol.specs.Refusals as members
use Rattle.stable_record.specs.LogRefusals as logs
use Rattle.wire.specs.Refusals as wire
use Rattle.node.specs.declared.fault.Foreign.{Foreign}
use Rattle.node.specs.declared.fault.Foreign.TheVariants.{Bytes, Message}
use Rattle.node.specs.declared.fault.NodeFault.{NodeFault}
use Rattle.node.specs.declared.fault.NodeFault.TheVariants as fault

-- the number of what is wrong with the datagram
abbrev pub foreign_number : Foreign → ℕ
foreign_number (Bytes f) = wire.number_of f
foreign_number (Message r) = members.number_of r

-- the number that is reported for each refusal
abbrev pub number_of : NodeFault → ℕ
number_of fault.Memory = 1
number_of (fault.Refused r) = members.number_of r
number_of (fault.Log f) = logs.number_of f
number_of fault.Stopped = 1201
number_of (fault.Foreign f) = 1202

-- the number of the underlying refusal: of bad files, or of what makes a datagram foreign
abbrev pub cause_of : NodeFault → Option ℕ
cause_of fault.Memory = None
cause_of (fault.Refused r) = members.cause_of r
cause_of (fault.Log f) = None
cause_of fault.Stopped = None
cause_of (fault.Foreign f) = Some (foreign_number f)
