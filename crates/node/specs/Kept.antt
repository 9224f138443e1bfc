-- The pieces that a node keeps of messages that are not complete yet. Headers are equal if all
-- their fields are.
use Rattle.std.specs.Prelude.{ℕ, Bool, not, List, [], ◌∷◌, ◌++◌, filter}
use Rattle.std.specs.List.{list_all, list_any}
use Rattle.wire.specs.Joining.{is_numbered, same_header}
use Rattle.wire.specs.Pieces.{numbers_of}
use Rattle.wire.specs.declared.datagram.Carrier.{Carrier}
use Rattle.wire.specs.declared.datagram.Carrier.TheVariants.{Promise, Propose, Agreed}
use Rattle.wire.specs.declared.datagram.Header.{Header}
use Rattle.wire.specs.declared.datagram.Piece.{Piece}

-- Whether the piece of this number, of the header's message, is among these.
abbrev pub has_number : Header → List Piece → ℕ → Bool
has_number h pieces k = list_any (is_numbered h k) pieces

-- Whether all pieces of the header's message are among these.
abbrev pub are_all : Header → List Piece → Bool
are_all h pieces = list_all (has_number h pieces) (numbers_of h.length)

-- the pieces with one added
abbrev pub with_piece : List Piece → Piece → List Piece
with_piece pieces p = pieces ++ p ∷ []

-- the pieces of other messages
abbrev pub without : Header → List Piece → List Piece
without h pieces = filter (λ p. not (same_header h p.header)) pieces

-- the members of the claims that precede the build
abbrev pub members_in : Carrier → List ℕ
members_in (Promise c d) = c.member ∷ d.member ∷ []
members_in (Propose c) = c.member ∷ []
members_in Agreed = []
