-- What a step sends, and how it is offered to a port.
use Rattle.std.specs.Prelude.{◌≡◌, ℕ, Any, List, map, Result}
use Rattle.faults.specs.Bytes.{Text}
use Rattle.datagram_ports.specs.Calls.{Call, Sent, WentThrough}
use Rattle.datagram_ports.specs.Kept.{Parcel}
use Rattle.datagram_ports.specs.declared.fault.PortFault.{PortFault}

-- these datagrams, each from the node to its receiver
abbrev pub parcels_from : ℕ → List (ℕ × Text) → List Parcel
parcels_from k sends = map (λ s. record { from = k; to = s.0; text = s.1 }) sends

-- One of these datagrams has this text.
abbrev pub IsSent : List (ℕ × Text) → Text → Type 0
IsSent sends text = Any (λ s. s.1 ≡ text) sends

-- a datagram that was offered, and the port's answer
abbrev pub Answered : Type 0
Answered = Parcel × Result (Unit {0}) PortFault

-- the send calls with these offers and answers
abbrev pub sends_of : List Answered → List Call
sends_of answers = map (λ a. Sent a.0 a.1) answers

-- The port went through exactly the sends of these datagrams, each once and in order, with any
-- answers.
abbrev pub WasOffered : {P : Type 0} → (P → Call → P → Type 0) → P → List Parcel → P → Type 0
WasOffered does old parcels new =
    (answers : List Answered) × (map (λ a. a.0) answers ≡ parcels)
    × WentThrough does old (sends_of answers) new
