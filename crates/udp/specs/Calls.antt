-- What calls do to a port over UDP.
use Rattle.std.specs.Prelude.{◌≡◌, ◌⊎◌, ◌++◌, ℕ, Bool, IsPermutation, List, [], ◌∷◌, Option, Result, Ok, Err}
use Rattle.std.specs.declared.net.socket_addr.SocketAddr.{SocketAddr}
use Rattle.faults.specs.Bytes.{Text}
use Rattle.datagram_ports.specs.Calls.{Call, Received, Sent, WentThrough}
use Rattle.datagram_ports.specs.Kept.{Parcel}
use Rattle.datagram_ports.specs.declared.fault.PortFault.{PortFault}
use Rattle.udp.specs.Inbox.{came_as}
use Rattle.udp.specs.Leaving.{IsLeft, texts_of}
use Rattle.udp.specs.Notices.{NoticesGoOn}
use Rattle.udp.specs.Ways.{HasNoSeat, HasWay, IsSeatOf, LeavesBy}
use Rattle.udp.specs.declared.patience.Hurry.TheVariants.{Patient}
use Rattle.udp.specs.declared.sockets.Seat.{Seat}
use Rattle.udp.specs.declared.udp_port.UdpPort.{UdpPort}

-- A port's configuration: the seats of the nodes here, the members' addresses, the maximum length
-- of a datagram in bytes, whether datagrams from other addresses are accepted, and what a request
-- begins with.
pub record Setup : Type 0 where
  pub seats : List Seat
  pub addresses : List SocketAddr
  pub most : ℕ
  pub is_open : Bool
  pub front : Option (List ℕ)

-- the port's configuration
abbrev pub setup_of : {C : Type 0} → UdpPort C → Setup
setup_of p = record {
  seats = p.seats.items;
  addresses = p.addresses.items;
  most = p.most;
  is_open = p.is_open;
  front = p.front;
}

-- Nothing has happened to the port yet: nothing came, waits, was handed to the system, granted or
-- offered, and a receive is patient.
pub record IsEmpty {C : Type 0} (port : UdpPort C) : Type 0 where
  pub came : port.inbox.came ≡ []
  pub waiting : port.inbox.waiting ≡ []
  pub notified : port.notices.came ≡ []
  pub notices : port.notices.waiting ≡ []
  pub leaving : port.leaving.waiting.items ≡ []
  pub handed : port.handed.all ≡ []
  pub granted : port.granted.all ≡ []
  pub sends : port.sends ≡ 0
  pub failures : port.failures ≡ 0
  pub hurry : port.hurry ≡ Patient

-- It is the same port: its configuration and keys are unchanged, and so is the listing that its
-- notices are about.
pub record IsSamePort {C : Type 0} (old new : UdpPort C) : Type 0 where
  pub setup : setup_of new ≡ setup_of old
  pub heard : new.inbox.key ≡ old.inbox.key
  pub sent : new.outbox.key ≡ old.outbox.key
  pub noticed : new.notices.key ≡ old.notices.key
  pub listing : new.notices.listing ≡ old.notices.listing

-- Some of the queued datagrams were handed to the system, each once, and the others stay queued.
-- Received notices were appended to theirs.
pub record LetsLeave {C : Type 0} (old new : UdpPort C) : Type 0 where
  pub same : IsSamePort old new
  pub notices : NoticesGoOn old.notices new.notices
  pub left : IsLeft old.leaving.waiting.items old.handed.all new.leaving.waiting.items
      new.handed.all

-- An accepted datagram has a way from a node here to a member. If it is for a node of another
-- process, it is appended to the queue as it leaves under the key. If it is for a node here, or is
-- refused, the queue is unchanged.
abbrev pub TakesIn : {C : Type 0} → UdpPort C → Parcel → Result (Unit {0}) PortFault → UdpPort C
    → Type 0
TakesIn old parcel (Ok u) new =
    HasWay old.seats.items old.addresses.items parcel.from parcel.to
    × (HasNoSeat old.seats.items parcel.to
    → LeavesBy old.seats.items old.addresses.items parcel.from parcel.to
    (came_as old.outbox.key parcel.text) old.leaving.waiting.items new.leaving.waiting.items)
    × ((place : ℕ) → IsSeatOf old.seats.items parcel.to place
    → new.leaving.waiting.items ≡ old.leaving.waiting.items)
TakesIn old parcel (Err f) new = new.leaving.waiting.items ≡ old.leaving.waiting.items

-- A datagram was offered, and none of the queued ones was handed to the system. Received notices
-- were appended to theirs.
pub record IsOffered {C : Type 0} (old : UdpPort C) (parcel : Parcel)
    (answer : Result (Unit {0}) PortFault) (new : UdpPort C) : Type 0 where
  pub same : IsSamePort old new
  pub notices : NoticesGoOn old.notices new.notices
  pub handed : new.handed.all ≡ old.handed.all
  pub taken : TakesIn old parcel answer new

-- what a call does to the port
abbrev pub DoesOverUdp : {C : Type 0} → UdpPort C → Call → UdpPort C → Type 0
DoesOverUdp old (Received answer) new = LetsLeave old new
DoesOverUdp old (Sent parcel answer) new = IsOffered old parcel answer new

-- The calls send these texts away, in order: for each accepted send to a node of another process
-- its text, as it leaves under the key, and nothing else.
abbrev pub AreSentAway : List Seat → Option Text → List Call → List Text → Type 0
AreSentAway seats key [] texts = texts ≡ []
AreSentAway seats key (Received answer ∷ calls) texts = AreSentAway seats key calls texts
AreSentAway seats key (Sent parcel (Err f) ∷ calls) texts = AreSentAway seats key calls texts
AreSentAway seats key (Sent parcel (Ok u) ∷ calls) texts =
    (((place : ℕ) × IsSeatOf seats parcel.to place) × AreSentAway seats key calls texts)
    ⊎ (HasNoSeat seats parcel.to
    × ((more : List Text) × (texts ≡ came_as key parcel.text ∷ more)
    × AreSentAway seats key calls more))

-- the texts handed to the system, and then the queued ones
abbrev pub out_of : {C : Type 0} → UdpPort C → List Text
out_of p = p.handed.all ++ texts_of p.leaving.waiting.items

-- Nothing leaves the port except what the calls send. The port is the same, and the texts handed
-- over or queued are those from before and those that the calls send away, each once.
pub record LeavesWhatIsSent {C : Type 0} (old : UdpPort C) (calls : List Call) (new : UdpPort C)
    : Type 0 where
  pub same : IsSamePort old new
  pub texts : List Text
  pub sent : AreSentAway old.seats.items old.outbox.key calls texts
  pub out : IsPermutation (out_of old ++ texts) (out_of new)

-- Law: this holds of any port that went through these calls.
abbrev pub CallsLeaveWhatIsSent : Type 0 → Type 0
CallsLeaveWhatIsSent C = (old new : UdpPort C) (calls : List Call)
    → WentThrough DoesOverUdp old calls new → LeavesWhatIsSent old calls new
