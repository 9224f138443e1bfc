-- The first datagram of a step, sent over UDP.
use Rattle.std.specs.Prelude.{◌≡◌, ℕ, List, OnOk, Option, None, Some, Result, slice_get}
use Rattle.faults.specs.Bytes.{Text}
use Rattle.datagram_ports.specs.declared.fault.PortFault.{PortFault}
use Rattle.udp.specs.Ways.{HasWay}
use Rattle.udp.specs.declared.udp_port.UdpPort.{UdpPort}

-- If there is a first datagram and the port took it, it has a way from the node to its receiver. If
-- there is none, the port is unchanged.
abbrev pub SendsFirst : {C : Type 0} → ℕ → List (ℕ × Text) → UdpPort C → UdpPort C
    → Option (Result (Unit {0}) PortFault) → Type 0
SendsFirst me sends old new None = (slice_get sends 0 ≡ None) × (new ≡ old)
SendsFirst me sends old new (Some answer) =
    (d : ℕ × Text) × (slice_get sends 0 ≡ Some d)
    × OnOk answer (HasWay old.seats.items old.addresses.items me d.0)
