-- The first datagram of a step, sent over a port in memory.
use Rattle.std.specs.Prelude.{◌≡◌, ◌++◌, ℕ, List, OnOk, Option, None, Some, Result, slice_get}
use Rattle.faults.specs.Bytes.{Text}
use Rattle.datagram_ports.specs.InMemory.{MemPortState, put_by}
use Rattle.datagram_ports.specs.declared.fault.PortFault.{PortFault}

-- If there is a first datagram and the port took it, the port queued it, once or twice. If there is
-- none, the port is unchanged.
abbrev pub QueuesFirst : List (ℕ × Text) → MemPortState → MemPortState
    → Option (Result (Unit {0}) PortFault) → Type 0
QueuesFirst sends old new None = (slice_get sends 0 ≡ None) × (new ≡ old)
QueuesFirst sends old new (Some answer) =
    (d : ℕ × Text) × (slice_get sends 0 ≡ Some d)
    × OnOk answer (new.waiting ≡ old.waiting ++ put_by old.orders.is_twice d.0 d.1)
