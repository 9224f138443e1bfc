-- The numbers of a port's refusals.
use Rattle.std.specs.Prelude.{ℕ}
use Rattle.datagram_ports.specs.declared.fault.PortFault.{PortFault}
use Rattle.datagram_ports.specs.declared.fault.PortFault.TheVariants.{Memory, NoSocket, Failed}

-- the number that each refusal is reported with
abbrev pub number_of : PortFault → ℕ
number_of Memory = 1
number_of Failed = 1205
number_of NoSocket = 1204
