use Rattle.std.proofs.Common.{◌≡◌, map, take}
use Rattle.wire.specs.Spelling.{datagram_text}
use Rattle.node.specs.Parcels.{texts_in}
use Rattle.node.proofs.written.all_texts.Given as goal

abbrev pub invariant-loop-datagram : goal.invariant-loop-datagram
invariant-loop-datagram l = texts_in l.texts.items ≡ map datagram_text (take l.datagram-index l.datagrams)
