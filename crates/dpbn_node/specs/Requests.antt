-- Datagrams that ask for a unit.
use Rattle.std.specs.Prelude.{◌++◌, [], ◌∷◌, Bool, true, false, codes}
use Rattle.ballots.specs.Value.{Value}
use Rattle.ballots.specs.declared.message.Body.{Body}
use Rattle.ballots.specs.declared.message.Body.TheVariants.{Ask}
use Rattle.faults.specs.Bytes.{Text}
use Rattle.wire.specs.Spelling.{kind_of}
use Rattle.wire.specs.declared.datagram.Datagram.{Datagram}
use Rattle.wire.specs.declared.datagram.Datagram.TheVariants.{Whole, Piece}

-- the bytes that each of them begins with
abbrev pub request_front : Text
request_front = codes "DPB1" ++ kind_of Ask ∷ []

-- whether a message asks for its unit
abbrev pub body_asks : Body Value → Bool
body_asks Ask = true
body_asks _ = false

-- whether a datagram asks for its unit
abbrev pub asks : Datagram → Bool
asks (Whole m) = body_asks m.body
asks (Piece p) = false
