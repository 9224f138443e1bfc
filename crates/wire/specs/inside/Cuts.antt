-- A text that is cut into pieces while it is written.
use Rattle.std.specs.Prelude.{◌≡◌, ◌<◌, ◌*◌, ◌++◌, All, List, drop, flat_map, length, map, take}
use Rattle.faults.specs.Bytes.{Text}
use Rattle.wire.specs.Pieces.{numbers_of, piece_size}
use Rattle.wire.specs.declared.cuts.Cuts.{Cuts}

-- the text so far
abbrev pub text_in : Cuts → Text
text_in c = flat_map (λ bytes. bytes) c.full.items ++ c.last.items

-- all pieces but the last have `piece_size` bytes, and the last has fewer
abbrev pub IsCut : Cuts → Type 0
IsCut c = All (λ bytes. length bytes ≡ piece_size) c.full.items × (length c.last.items < piece_size)

-- the bytes of the pieces of a text, in order of number
abbrev pub cuts_of : Text → List Text
cuts_of text = map (λ k. take piece_size (drop (piece_size * k) text)) (numbers_of (length text))

-- these are the bytes of the pieces of the text that they make up
abbrev pub AreCuts : List Text → Type 0
AreCuts pieces = pieces ≡ cuts_of (flat_map (λ bytes. bytes) pieces)
