-- What received bytes mean to a node.
use Rattle.std.specs.Prelude.{◌≡◌, All, List, ◌∷◌, Option, None, Some, Result, Ok, Err, if◌then◌else◌}
use Rattle.ballots.specs.declared.message.Message.{Message}
use Rattle.protocol.specs.State.{State, Value}
use Rattle.protocol.specs.Step.{header_refusal}
use Rattle.protocol.specs.declared.refusal.Refusal.{Refusal}
use Rattle.node.specs.Kept.{are_all, has_number, members_in, with_piece, without}
use Rattle.node.specs.declared.fault.Foreign.{Foreign}
use Rattle.node.specs.declared.fault.Foreign.TheVariants as foreign
use Rattle.wire.specs.Joining.{bytes_of}
use Rattle.wire.specs.Reading.{joined}
use Rattle.wire.specs.declared.WireFault.{WireFault}
use Rattle.wire.specs.declared.datagram.Datagram.{Datagram}
use Rattle.wire.specs.declared.datagram.Datagram.TheVariants as datagram
use Rattle.wire.specs.declared.datagram.Header.{Header}
use Rattle.wire.specs.declared.datagram.Piece.{Piece}

-- what received bytes mean to a node, with the pieces that it keeps afterwards
pub data Arrival : Type 0 where
  -- The bytes mean nothing to it.
  Strange : Foreign → List Piece → Arrival
  -- It is a piece, and its message isn't complete yet.
  Waits : List Piece → Arrival
  -- A message is complete, and the node handles it.
  Whole : Message Value → List Piece → Arrival

-- once the last missing piece is there: the pieces of the message are dropped, whether or not they
-- join to a message
abbrev pub arrival_of_all : List Piece → Result (Message Value) WireFault → Arrival
arrival_of_all rest (Ok m) = Whole m rest
arrival_of_all rest (Err f) = Strange (foreign.Bytes f) rest

-- a piece that is not among these: it is added, and the message is joined if it is complete
abbrev pub arrival_of_new : List Piece → Piece → Arrival
arrival_of_new pieces p =
    let all = with_piece pieces p in
    if are_all p.header all
    then arrival_of_all (without p.header pieces) (joined p.header (bytes_of p.header all))
    else Waits all

-- A piece whose header the member refuses means nothing. A piece that the node already has changes
-- nothing.
abbrev pub arrival_of_piece : List Piece → Piece → Option Refusal → Arrival
arrival_of_piece pieces p (Some r) = Strange (foreign.Message r) pieces
arrival_of_piece pieces p None =
    if has_number p.header pieces p.number then Waits pieces else arrival_of_new pieces p

-- why the member refuses the header, if it does
abbrev pub refusal_of : State → Header → Option Refusal
refusal_of s h = header_refusal s h.tree (h.sender ∷ members_in h.carrier) h.path

-- The member accepts the headers of these pieces: they name its tree, its members and its units.
abbrev pub AreLetThrough : State → List Piece → Type 0
AreLetThrough s pieces = All (λ p. refusal_of s p.header ≡ None) pieces

-- what a datagram means, or bytes that are not a datagram
abbrev pub arrival_of : State → List Piece → Result Datagram WireFault → Arrival
arrival_of s pieces (Err f) = Strange (foreign.Bytes f) pieces
arrival_of s pieces (Ok (datagram.Whole m)) = Whole m pieces
arrival_of s pieces (Ok (datagram.Piece p)) = arrival_of_piece pieces p (refusal_of s p.header)
