-- Sent messages, as bytes with receivers.
use Rattle.std.specs.Prelude.{ℕ, List, map, flat_map, Vec}
use Rattle.std.specs.declared.alloc.Global.{Global}
use Rattle.faults.specs.Bytes.{Text}
use Rattle.ballots.specs.declared.message.Message.{Message}
use Rattle.protocol.specs.State.{Value}
use Rattle.protocol.specs.declared.sends.Send.{Send}
use Rattle.wire.specs.Pieces.{split_of}
use Rattle.wire.specs.Spelling.{datagram_text}

-- the bytes, as values
abbrev pub texts_in : List (Vec ℕ Global) → List Text
texts_in texts = map (λ t. t.items) texts

-- all of these to one receiver
abbrev pub each_to : List Text → ℕ → List (ℕ × Text)
each_to texts to = map (λ text. (to, text)) texts

-- all of these to each of the receivers, in their order
abbrev pub parcels_to : List ℕ → List Text → List (ℕ × Text)
parcels_to receivers texts = flat_map (each_to texts) receivers

-- the datagrams of a message: its pieces in order of number, or the message itself
abbrev pub datagrams_of : Message Value → List Text
datagrams_of m = map datagram_text (split_of m)

-- the datagrams of these sends, each with its receiver, in the order of the sends
abbrev pub datagrams_to : List Send → List (ℕ × Text)
datagrams_to sends = flat_map (λ s. each_to (datagrams_of s.message) s.to) sends
