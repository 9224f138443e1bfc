-- What holds of the texts of datagrams and notes, and of pieces.
use Rattle.std.specs.Prelude.{◌≡◌, ◌<◌, ◌≤◌, ◌+◌, ◌++◌, ◌↔◌, ℕ, All, List, [], flat_map, length, map, slice_get, slice_index, Option, None, Some, option_map, Ok}
use Rattle.std.specs.List.{range_with_len}
use Rattle.faults.specs.Bytes.{Text}
use Rattle.claims.specs.declared.claim.Claim.{Claim}
use Rattle.package_record.specs.Build.{build_text}
use Rattle.ballots.specs.declared.message.Message.{Message}
use Rattle.ballots.specs.declared.message.Note.{Note}
use Rattle.ballots.specs.Value.{Value}
use Rattle.wire.specs.Messages.{IsMessage, IsNote}
use Rattle.wire.specs.Joining.{AreAllThere, bytes_of}
use Rattle.wire.specs.Pieces.{IsDatagram, IsHeader, IsPiece, carried_in, header_with, message_with, piece_size, split_of}
use Rattle.wire.specs.Reading.{datagram_of, joined, note_of}
use Rattle.wire.specs.Spelling.{datagram_text, note_text, piece_text}
use Rattle.wire.specs.declared.datagram.Carrier.{Carrier}
use Rattle.wire.specs.declared.datagram.Carrier.TheVariants as carriers
use Rattle.wire.specs.declared.datagram.Datagram.{Datagram}
use Rattle.wire.specs.declared.datagram.Datagram.TheVariants as datagrams
use Rattle.wire.specs.declared.datagram.Header.{Header}
use Rattle.wire.specs.declared.datagram.Piece.{Piece}
use Rattle.wire.specs.declared.datagram.TheConstants.{LONGEST_PIECE, SENDER_PLACE}

-- ---- texts

-- the text of each datagram is parsed as that datagram
abbrev pub DatagramTextIsReadAgain : Type 0
DatagramTextIsReadAgain = (d : Datagram) → IsDatagram d → datagram_of (datagram_text d) ≡ Ok d

-- the text of each note is parsed as that note
abbrev pub NoteTextIsReadAgain : Type 0
NoteTextIsReadAgain = (n : Note Value) → IsNote n → note_of (note_text n) ≡ Ok n

-- all elements are bytes
abbrev pub AreBytes : Text → Type 0
AreBytes text = (k : ℕ) → slice_index text k < 256

-- what is parsed as a datagram is valid, and has this text
abbrev pub WhatIsReadIsSpelledSo : Type 0
WhatIsReadIsSpelledSo =
    (text : Text) (d : Datagram) → AreBytes text → datagram_of text ≡ Ok d
    → IsDatagram d × (text ≡ datagram_text d)

-- what is parsed as a note is valid, and has this text
abbrev pub NoteThatIsReadIsSpelledSo : Type 0
NoteThatIsReadIsSpelledSo =
    (text : Text) (n : Note Value) → AreBytes text → note_of text ≡ Ok n
    → IsNote n × (text ≡ note_text n)

-- if the text of a datagram is a prefix of that of another, the two datagrams are equal and so are
-- their texts
abbrev pub NoDatagramBeginsAnother : Type 0
NoDatagramBeginsAnother =
    (d e : Datagram) (rest : Text) → IsDatagram d → IsDatagram e
    → datagram_text e ≡ datagram_text d ++ rest → (d ≡ e) × (rest ≡ [])

-- if the text of a note is a prefix of that of another, the two notes are equal and so are their
-- texts
abbrev pub NoNoteBeginsAnother : Type 0
NoNoteBeginsAnother =
    (m n : Note Value) (rest : Text) → IsNote m → IsNote n
    → note_text n ≡ note_text m ++ rest → (m ≡ n) × (rest ≡ [])

-- ---- pieces

-- the header of a piece
abbrev pub header_in : Datagram → Option Header
header_in (datagrams.Whole m) = None
header_in (datagrams.Piece p) = Some p.header

-- the number of a piece
abbrev pub number_in : Datagram → Option ℕ
number_in (datagrams.Whole m) = None
number_in (datagrams.Piece p) = Some p.number

-- the bytes of a piece
abbrev pub bytes_in : Datagram → Text
bytes_in (datagrams.Whole m) = []
bytes_in (datagrams.Piece p) = p.bytes

-- The datagrams are exactly the pieces of the build's text: they have this header, their numbers
-- are 0, 1, .., and their bytes make up that text. All but the last have `piece_size` bytes; the
-- last has from 1 to `piece_size` bytes.
pub record AreItsPieces (h : Header) (v : Value) (ds : List Datagram) : Type 0 where
  pub headers : All (λ d. header_in d ≡ Some h) ds
  pub numbers : map number_in ds ≡ map Some (range_with_len 0 (length ds))
  pub bytes : flat_map bytes_in ds ≡ build_text v
  pub full : (k : ℕ) → k + 1 < length ds
      → option_map (λ d. length (bytes_in d)) (slice_get ds k) ≡ Some piece_size
  pub last : All (λ d. (1 ≤ length (bytes_in d)) × (length (bytes_in d) ≤ piece_size)) ds

-- each datagram of a message can be encoded
abbrev pub MessagesAreSplitIntoDatagrams : Type 0
MessagesAreSplitIntoDatagrams = (m : Message Value) → IsMessage m → All IsDatagram (split_of m)

-- a message that carries a build is sent in pieces
abbrev pub MessagesWithABuildGoOutInPieces : Type 0
MessagesWithABuildGoOutInPieces =
    (m : Message Value) (carrier : Carrier) (v : Value)
    → IsMessage m → carried_in m.body ≡ Some (carrier, v)
    → AreItsPieces (header_with m carrier v) v (split_of m)

-- the pieces of a message join to that message
abbrev pub PiecesJoinToTheMessage : Type 0
PiecesJoinToTheMessage =
    (m : Message Value) (carrier : Carrier) (v : Value)
    → IsMessage m → carried_in m.body ≡ Some (carrier, v)
    → joined (header_with m carrier v) (build_text v) ≡ Ok m

-- the same holds for pieces in any order, possibly among pieces of other messages, if none is
-- missing
abbrev pub PiecesJoinInAnyOrder : Type 0
PiecesJoinInAnyOrder =
    (m : Message Value) (carrier : Carrier) (v : Value) (pieces : List Piece)
    → IsMessage m → carried_in m.body ≡ Some (carrier, v)
    → AreAllThere (header_with m carrier v) (build_text v) pieces
    → joined (header_with m carrier v) (bytes_of (header_with m carrier v) pieces) ≡ Ok m

-- The two messages agree in all but their builds, and the texts of these have the same length.
pub record AreAlikeButForTheBuild (m n : Message Value) (c d : Carrier) (v w : Value) : Type 0 where
  pub sender : m.sender ≡ n.sender
  pub tree : m.tree ≡ n.tree
  pub path : m.path ≡ n.path
  pub carrier : c ≡ d
  pub as_long : length (build_text v) ≡ length (build_text w)

-- The headers of two messages are equal if and only if the sender, the tree, the unit, the kind
-- with its claims, and the length of the build's text are. The builds may still differ: only the
-- senders can prevent that.
abbrev pub EqualHeadersSayWhatIsAlike : Type 0
EqualHeadersSayWhatIsAlike =
    (m n : Message Value) (c d : Carrier) (v w : Value)
    → carried_in m.body ≡ Some (c, v) → carried_in n.body ≡ Some (d, w)
    → (header_with m c v ≡ header_with n d w) ↔ AreAlikeButForTheBuild m n c d v w

-- A header has all fields of a message but its build: messages with equal headers and equal builds
-- are equal.
abbrev pub HeadersSayAllButTheBuild : Type 0
HeadersSayAllButTheBuild =
    (m n : Message Value) (carrier other : Carrier) (v : Value)
    → carried_in m.body ≡ Some (carrier, v) → carried_in n.body ≡ Some (other, v)
    → header_with m carrier v ≡ header_with n other v → m ≡ n

-- the message made of a message's header and build is that message
abbrev pub MessagesAreWithTheirHeaders : Type 0
MessagesAreWithTheirHeaders =
    (m : Message Value) (carrier : Carrier) (v : Value)
    → carried_in m.body ≡ Some (carrier, v) → message_with (header_with m carrier v) v ≡ m

-- what pieces of one header join to: a message with that header, which carries the build that the
-- text encodes
pub record IsJoined (h : Header) (text : Text) (m : Message Value) : Type 0 where
  pub message : IsMessage m
  pub build : Value
  pub carried : carried_in m.body ≡ Some (h.carrier, build)
  pub spelled : text ≡ build_text build
  pub header : header_with m h.carrier build ≡ h

-- what pieces join to is a valid message with their header
abbrev pub WhatIsJoinedIsAMessage : Type 0
WhatIsJoinedIsAMessage =
    (h : Header) (text : Text) (m : Message Value)
    → IsHeader h → length text ≡ h.length → joined h text ≡ Ok m → IsJoined h text m

-- ---- places and lengths

-- the sender of the datagram
abbrev pub sender_of : Datagram → ℕ
sender_of (datagrams.Whole m) = m.sender
sender_of (datagrams.Piece p) = p.header.sender

-- the sender's number is at one fixed place of each datagram
abbrev pub SenderHasItsPlace : Type 0
SenderHasItsPlace =
    (d : Datagram) → slice_get (datagram_text d) SENDER_PLACE ≡ Some (sender_of d)

-- no piece is longer than `LONGEST_PIECE`
abbrev pub NoPieceIsLonger : Type 0
NoPieceIsLonger = (p : Piece) → IsPiece p → length (piece_text p) ≤ LONGEST_PIECE

-- a full piece of a promise that reports a vote, of a unit with a path of 255 bytes, has this
-- length
abbrev pub LongestPieceIsAPromises : Type 0
LongestPieceIsAPromises =
    (p : Piece) (c d : Claim) → IsPiece p → p.header.carrier ≡ carriers.Promise c d
    → length p.header.path ≡ 255 → length p.bytes ≡ piece_size
    → length (piece_text p) ≡ LONGEST_PIECE
