-- Where nodes listen, and which way datagrams go.
use Rattle.std.specs.Prelude.{◌≡◌, ◌⊎◌, ◌+◌, ◌++◌, ⊤, ℕ, List, [], ◌∷◌, None, Some, map, slice_get}
use Rattle.std.specs.Net.Addr.{ipv4_octets}
use Rattle.std.specs.Net.Socket.{v4_ip, v4_port}
use Rattle.std.specs.declared.net.socket_addr.SocketAddr.{SocketAddr}
use Rattle.std.specs.declared.net.socket_addr.SocketAddr.TheVariants.{V4, V6}
use Rattle.faults.specs.Bytes.{Text}
use Rattle.udp.specs.declared.line.Waiting.{Waiting}
use Rattle.udp.specs.declared.sockets.Seat.{Seat}
use Rattle.udp.specs.declared.sockets.Way.{Way}

-- the address is 127.0.0.1, with this port
abbrev pub IsLocal : ℕ → SocketAddr → Type 0
IsLocal port (V4 a) = (ipv4_octets (v4_ip a) ≡ 127 ∷ 0 ∷ 0 ∷ 1 ∷ []) × (v4_port a ≡ port)
IsLocal port (V6 a) = ⊥

-- R holds of n and the first element, of n + 1 and the second, and so on.
abbrev pub CountUp : {X : Type 0} → (ℕ → X → Type 0) → ℕ → List X → Type 0
CountUp R n [] = ⊤
CountUp R n (x ∷ xs) = R n x × CountUp R (n + 1) xs

-- the addresses are 127.0.0.1, with consecutive ports from this base on
abbrev pub AreLocal : ℕ → List SocketAddr → Type 0
AreLocal base addresses = CountUp IsLocal base addresses

-- the seats are those of nodes 0, 1, 2 and so on
abbrev pub AreInOrder : List Seat → Type 0
AreInOrder seats = CountUp (λ node seat. seat.node ≡ node) 0 seats

-- a queue's entries: what each is for, and its text
abbrev pub in_line : {T : Type 0} → List (Waiting T) → List (T × Text)
in_line waiting = map (λ w. (w.errand, w.bytes.items)) waiting

-- the seat at this place belongs to the node
abbrev pub IsSeatOf : List Seat → ℕ → ℕ → Type 0
IsSeatOf seats node place = (seat : Seat) × (slice_get seats place ≡ Some seat)
    × (seat.node ≡ node)

-- the node has no seat here
abbrev pub HasNoSeat : List Seat → ℕ → Type 0
HasNoSeat seats node = (place : ℕ) → ¬ (IsSeatOf seats node place)

-- the way is from the sender's seat to the receiver's address
abbrev pub IsWay : List Seat → List SocketAddr → ℕ → ℕ → Way → Type 0
IsWay seats addresses from to way = IsSeatOf seats from way.seat
    × (slice_get addresses to ≡ Some way.to) × (way.member ≡ to)

-- the sender has no seat here, or the receiver no address
abbrev pub HasNoWay : List Seat → List SocketAddr → ℕ → ℕ → Type 0
HasNoWay seats addresses from to = HasNoSeat seats from ⊎ (slice_get addresses to ≡ None)

-- there is a way from the sender to the receiver
abbrev pub HasWay : List Seat → List SocketAddr → ℕ → ℕ → Type 0
HasWay seats addresses from to = (way : Way) × IsWay seats addresses from to way

-- The text was appended to the queue, with the way from its sender to its receiver.
abbrev pub LeavesBy : List Seat → List SocketAddr → ℕ → ℕ → Text → List (Waiting Way)
    → List (Waiting Way) → Type 0
LeavesBy seats addresses from to text old new = (way : Way) × IsWay seats addresses from to way
    × (in_line new ≡ in_line old ++ (way, text) ∷ [])
