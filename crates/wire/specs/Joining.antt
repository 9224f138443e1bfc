-- The bytes of pieces, put in order of number.
use Rattle.std.specs.Prelude.{◌≡◌, ◌==◌, ◌&&◌, ℕ, All, Bool, true, false, List, [], ◌∷◌, filter, flat_map}
use Rattle.std.specs.Str.{bytes_eq}
use Rattle.faults.specs.Bytes.{Text}
use Rattle.claims.specs.Claims.{claim_same}
use Rattle.wire.specs.Pieces.{numbers_of, piece_at}
use Rattle.wire.specs.declared.datagram.Carrier.{Carrier}
use Rattle.wire.specs.declared.datagram.Carrier.TheVariants.{Promise, Propose, Agreed}
use Rattle.wire.specs.declared.datagram.Header.{Header}
use Rattle.wire.specs.declared.datagram.Piece.{Piece}

-- whether the carriers are equal
abbrev pub same_carrier : Carrier → Carrier → Bool
same_carrier (Promise c d) (Promise e f) = claim_same c e && claim_same d f
same_carrier (Propose c) (Propose e) = claim_same c e
same_carrier Agreed Agreed = true
same_carrier a b = false

-- whether the headers are equal in all fields
abbrev pub same_header : Header → Header → Bool
same_header a b =
    (a.sender == b.sender) && bytes_eq a.tree b.tree && bytes_eq a.path b.path
    && same_carrier a.carrier b.carrier && (a.length == b.length)

-- the piece of this number, of the header's message
abbrev pub is_numbered : Header → ℕ → Piece → Bool
is_numbered h k p = (p.number == k) && same_header h p.header

-- the bytes of the piece of this number
abbrev pub bytes_numbered : Header → List Piece → ℕ → Text
bytes_numbered h pieces k = flat_map (λ p. p.bytes) (filter (is_numbered h k) pieces)

-- the bytes of the header's pieces, in order of number
abbrev pub bytes_of : Header → List Piece → Text
bytes_of h pieces = flat_map (bytes_numbered h pieces) (numbers_of h.length)

-- exactly one of these pieces has this one's header and number, and it is this one
abbrev pub StandsOnce : List Piece → Piece → Type 0
StandsOnce pieces p = filter (is_numbered p.header p.number) pieces ≡ p ∷ []

-- all pieces of the text are among these, in any order, possibly among others
abbrev pub AreAllThere : Header → Text → List Piece → Type 0
AreAllThere h text pieces = All (λ k. StandsOnce pieces (piece_at h text k)) (numbers_of h.length)
