-- How contracts see a port's fields.
use Rattle.std.specs.Prelude.{ℕ, Option, option_map, map}
use Rattle.faults.specs.Bytes.{Text}
use Rattle.datagram_ports.specs.InMemory.{MemPortState, kept_if}
use Rattle.datagram_ports.specs.Kept.{Arrived, Parcel}
use Rattle.datagram_ports.specs.declared.mem_port.MemPort.TheInside.{Inside}
use Rattle.datagram_ports.specs.declared.mem_port.Sending.{Sending}
use Rattle.datagram_ports.specs.declared.mem_port.Waiting.{Waiting}

-- a queued datagram
abbrev pub waiting_view : Waiting → ℕ × Text
waiting_view w = (w.to, w.bytes.items)

-- what a receive returned
abbrev pub given_view : Option Waiting → Arrived
given_view o = option_map waiting_view o

-- a datagram that was offered
abbrev pub sending_view : Sending → Parcel
sending_view s = record { from = s.from; to = s.to; text = s.bytes.items }

-- the port
abbrev pub port_view : Inside → MemPortState
port_view p = record {
  orders = record { lost_to = p.lost_to; is_twice = p.is_twice; is_deaf = p.is_deaf };
  waiting = map waiting_view p.waiting.items;
  given = kept_if p.has_given (map given_view p.given.items);
  offered = kept_if p.has_offered (map sending_view p.offered.items);
  granted = p.granted.all;
  failures = p.failures;
}
