-- Why a port can't be made, and how bad hosts are reported.
use Rattle.std.specs.Prelude.{◌≡◌, ◌⊎◌, ℕ, Option, None, Some}
use Rattle.datagram_ports.specs.declared.fault.PortFault.{PortFault}
use Rattle.datagram_ports.specs.declared.fault.PortFault.TheVariants as ports
use Rattle.udp.specs.declared.hosts.HostsFault.{HostsFault}
use Rattle.udp.specs.declared.hosts.HostsFault.TheVariants.{BadHost, Memory}

-- the number that each refusal is reported with
abbrev pub number_of : HostsFault → ℕ
number_of Memory = 1
number_of (BadHost n) = 1206

-- its place: the number of the part, counted from 1
abbrev pub place_of : HostsFault → Option ℕ
place_of Memory = None
place_of (BadHost n) = Some n

-- out of memory, or the address isn't available
abbrev pub CannotStart : PortFault → Type 0
CannotStart f = (f ≡ ports.Memory) ⊎ (f ≡ ports.NoSocket)
