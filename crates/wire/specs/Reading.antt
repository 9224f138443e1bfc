-- Parsing from left to right, up to the first fault.
use Rattle.std.specs.Prelude.{◌*◌, ◌-◌, ◌==◌, ◌&&◌, ℕ, min, nat_le, nat_lt, [], ◌∷◌, None, Result, Ok, Err, codes, drop, length, slice_index, take, if◌then◌else◌}
use Rattle.std.specs.Str.{bytes_eq}
use Rattle.byteorder.specs.Endian.{big_number}
use Rattle.faults.specs.Bytes.{Text, is_empty, is_one_of}
use Rattle.pkgpath.specs.PkgPath.{path_of}
use Rattle.claims.specs.declared.claim.Claim.{Claim}
use Rattle.claims.specs.Claim.{greatest_round, most_members}
use Rattle.package_record.specs.Build.{unit_path}
use Rattle.package_record.specs.Content.{most_bytes}
use Rattle.package_record.specs.BuildReading.{whole_build_of}
use Rattle.package_record.specs.Reading.{is_itself}
use Rattle.ballots.specs.declared.message.Body.{Body}
use Rattle.ballots.specs.declared.message.Body.TheVariants as bodies
use Rattle.ballots.specs.declared.message.Fact.{Fact}
use Rattle.ballots.specs.declared.message.Fact.TheVariants as facts
use Rattle.ballots.specs.declared.message.Message.{Message}
use Rattle.ballots.specs.declared.message.Note.{Note}
use Rattle.ballots.specs.Value.{Value}
use Rattle.wire.specs.Pieces.{message_with, piece_size}
use Rattle.wire.specs.declared.TheConstants.{LONGEST}
use Rattle.wire.specs.declared.WireFault.{WireFault}
use Rattle.wire.specs.declared.WireFault.TheVariants.{TooLong, Truncated, Magic, Kind, BadField, Trailing}
use Rattle.wire.specs.declared.datagram.Carrier.{Carrier}
use Rattle.wire.specs.declared.datagram.Carrier.TheVariants as carriers
use Rattle.wire.specs.declared.datagram.Datagram.{Datagram}
use Rattle.wire.specs.declared.datagram.Datagram.TheVariants.{Whole, Piece}
use Rattle.wire.specs.declared.datagram.Header.{Header}
use Rattle.wire.specs.declared.fields.Front.{Front}

infixl 10 ◌>>=◌
-- parsing ends at a fault, and else goes on with the result
abbrev pub ◌>>=◌ :
    {A B : Type 0} → Result A WireFault → (A → Result B WireFault) → Result B WireFault
(Ok x) >>= f = f x
(Err e) >>= f = Err e

-- ---- fields: each takes its bytes from the front of the text, and leaves the rest

-- this number of bytes
abbrev pub bytes_at : ℕ → Text → Result (Text × Text) WireFault
bytes_at n text = if nat_le n (length text) then Ok (take n text, drop n text) else Err Truncated

-- a big-endian number of n bytes, in this range
unfoldable pub number_at : ℕ → ℕ → ℕ → Text → Result (ℕ × Text) WireFault
number_at n least greatest text = do
  field ← bytes_at n text
  let value = big_number n field.0
  if nat_le least value && nat_le value greatest then Ok (value, field.1) else Err BadField

-- a round and a member
unfoldable pub claim_at : Text → Result (Claim × Text) WireFault
claim_at text = do
  round ← number_at 8 1 greatest_round text
  member ← number_at 1 0 (most_members - 1) round.1
  Ok (record { round = round.0; member = member.0 }, member.1)

-- the text as a path, which has to be in its canonical form
unfoldable pub path_in : Text → Result Text WireFault
path_in text = if is_itself (path_of text) text then Ok text else Err BadField

-- a path in its canonical form, preceded by its length
unfoldable pub path_at : Text → Result (Text × Text) WireFault
path_at text = do
  size ← number_at 2 1 255 text
  field ← bytes_at size.0 size.1
  path ← path_in field.0
  Ok (path, field.1)

-- one of these kinds
unfoldable pub kind_at : Text → Text → Result (ℕ × Text) WireFault
kind_at kinds text = do
  field ← bytes_at 1 text
  let kind = slice_index field.0 0
  if is_one_of kinds kind then Ok (kind, field.1) else Err Kind

-- the build of the unit with this name that is the whole text
abbrev pub build_in : {F : Type 0} → Text → Result Value F → Result Value WireFault
build_in name (Ok v) = if bytes_eq (unit_path v) name then Ok v else Err BadField
build_in name (Err e) = Err BadField

-- a build of the unit with this name, preceded by its length
unfoldable pub build_at : Text → Text → Result (Value × Text) WireFault
build_at name text = do
  size ← number_at 4 0 most_bytes text
  bytes ← bytes_at size.0 size.1
  build ← build_in name (whole_build_of bytes.0)
  Ok (build, bytes.1)

-- the result, if nothing is left after it
abbrev pub ends : {X : Type 0} → X × Text → Result X WireFault
ends x = if is_empty x.1 then Ok x.0 else Err Trailing

-- ---- datagrams

-- the kinds of messages that are sent whole: Offer, Promise, Vote, Ask, Nay
abbrev pub whole_kinds : Text
whole_kinds = 1 ∷ 2 ∷ 4 ∷ 6 ∷ 7 ∷ []

-- the kinds of messages that carry a build: Promise, Propose, Agreed
abbrev pub carrier_kinds : Text
carrier_kinds = 2 ∷ 3 ∷ 5 ∷ []

-- the first fields of each datagram: its kind, which is one of these; the sender; its tree's
-- digest; the unit's name
unfoldable pub front_at : Text → Text → Result (Front × Text) WireFault
front_at kinds text = do
  kind ← kind_at kinds text
  sender ← number_at 1 0 (most_members - 1) kind.1
  tree ← bytes_at 32 sender.1
  path ← path_at tree.1
  Ok (record { kind = kind.0; sender = sender.0; tree = tree.0; path = path.0 }, path.1)

-- a body that is only a claim
abbrev pub body_of_claim : (Claim → Body Value) → Text → Result (Body Value × Text) WireFault
body_of_claim body text = claim_at text >>= (λ c. Ok (body c.0, c.1))

-- a promise without a report
unfoldable pub promise_at : Text → Result (Body Value × Text) WireFault
promise_at text = do
  claim ← claim_at text
  mark ← number_at 1 0 0 claim.1
  Ok (bodies.Promise claim.0 None, mark.1)

-- the claim that is rejected, and the one that is promised
unfoldable pub nay_at : Text → Result (Body Value × Text) WireFault
nay_at text = do
  claim ← claim_at text
  promised ← claim_at claim.1
  Ok (bodies.Nay claim.0 promised.0, promised.1)

-- the body of a message of this kind that is sent whole
abbrev pub body_at : ℕ → Text → Result (Body Value × Text) WireFault
body_at kind text =
    if kind == 1 then body_of_claim bodies.Offer text
    else if kind == 2 then promise_at text
    else if kind == 4 then body_of_claim bodies.Vote text
    else if kind == 6 then Ok (bodies.Ask, text)
    else nay_at text

-- the message with these fields
abbrev pub whole : Front → Body Value → Message Value
whole f body = record { sender = f.sender; tree = f.tree; path = f.path; body = body }

-- a whole message
unfoldable pub whole_at : Text → Result (Datagram × Text) WireFault
whole_at text = do
  front ← front_at whole_kinds text
  body ← body_at front.0.kind front.1
  Ok (Whole (whole front.0 body.0), body.1)

-- a promise that reports a vote
unfoldable pub report_at : Text → Result (Carrier × Text) WireFault
report_at text = do
  claim ← claim_at text
  mark ← number_at 1 1 1 claim.1
  voted ← claim_at mark.1
  Ok (carriers.Promise claim.0 voted.0, voted.1)

-- what a message of this kind says besides the build that it carries
abbrev pub carrier_at : ℕ → Text → Result (Carrier × Text) WireFault
carrier_at kind text =
    if kind == 2 then report_at text
    else if kind == 3 then claim_at text >>= (λ c. Ok (carriers.Propose c.0, c.1))
    else Ok (carriers.Agreed, text)

-- the header with these fields
abbrev pub header_from : Front → Carrier → ℕ → Header
header_from f carrier size = record {
  sender = f.sender;
  tree = f.tree;
  path = f.path;
  carrier = carrier;
  length = size;
}

-- the fields that all pieces of one message share
unfoldable pub header_at : Text → Result (Header × Text) WireFault
header_at text = do
  front ← front_at carrier_kinds text
  carrier ← carrier_at front.0.kind front.1
  size ← number_at 4 1 most_bytes carrier.1
  Ok (header_from front.0 carrier.0 size.0, size.1)

-- the number of a piece of a build's text of this length
unfoldable pub piece_number_at : ℕ → Text → Result (ℕ × Text) WireFault
piece_number_at size text = do
  number ← number_at 2 0 65535 text
  if nat_lt (piece_size * number.0) size then Ok number else Err BadField

-- a piece of a message
unfoldable pub piece_at : Text → Result (Datagram × Text) WireFault
piece_at text = do
  header ← header_at text
  number ← piece_number_at header.0.length header.1
  bytes ← bytes_at (min piece_size (header.0.length - piece_size * number.0)) number.1
  Ok (Piece (record { header = header.0; number = number.0; bytes = bytes.0 }), bytes.1)

-- a whole message or a piece, by the first four bytes
abbrev pub datagram_by : Text → Text → Result (Datagram × Text) WireFault
datagram_by magic text =
    if bytes_eq magic (codes "DPB1") then whole_at text
    else if bytes_eq magic (codes "DPB2") then piece_at text
    else Err Magic

-- the datagram at the front of the text, or the first fault
unfoldable pub datagram_at : Text → Result (Datagram × Text) WireFault
datagram_at text = do
  magic ← bytes_at 4 text
  datagram_by magic.0 magic.1

-- the maximum length of a datagram in bytes
abbrev pub most_datagram_bytes : ℕ
most_datagram_bytes = LONGEST

-- the datagram that is the whole text, or the first fault
unfoldable pub datagram_of : Text → Result Datagram WireFault
datagram_of text =
    if nat_lt most_datagram_bytes (length text) then Err TooLong else datagram_at text >>= ends

-- the message with the header and the build with this text, or a fault
abbrev pub joined : Header → Text → Result (Message Value) WireFault
joined h text = build_in h.path (whole_build_of text) >>= (λ v. Ok (message_with h v))

-- ---- notes

-- the kinds of notes: Opened, Promised, Voted, Held
abbrev pub note_kinds : Text
note_kinds = 1 ∷ 2 ∷ 3 ∷ 4 ∷ []

-- a vote for a build of the unit with this name
unfoldable pub voted_at : Text → Text → Result (Fact Value × Text) WireFault
voted_at name text = do
  claim ← claim_at text
  build ← build_at name claim.1
  Ok (facts.Voted claim.0 build.0, build.1)

-- the fact of a note of this kind about the unit with this name
abbrev pub fact_at : Text → ℕ → Text → Result (Fact Value × Text) WireFault
fact_at name kind text =
    if kind == 1
    then number_at 8 1 greatest_round text >>= (λ round. Ok (facts.Opened round.0, round.1))
    else if kind == 2 then claim_at text >>= (λ c. Ok (facts.Promised c.0, c.1))
    else if kind == 3 then voted_at name text
    else build_at name text >>= (λ v. Ok (facts.Held v.0, v.1))

-- the note at the front of the text, or the first fault
unfoldable pub note_at : Text → Result (Note Value × Text) WireFault
note_at text = do
  kind ← kind_at note_kinds text
  path ← path_at kind.1
  fact ← fact_at path.0 kind.0 path.1
  Ok (record { path = path.0; fact = fact.0 }, fact.1)

-- the note that is the whole text, or the first fault
unfoldable pub note_of : Text → Result (Note Value) WireFault
note_of text = note_at text >>= ends
