use Rattle.std.proofs.Common.{◌≡◌, fold, take}
use Rattle.node.specs.Parcels.{texts_in}
use Rattle.world.specs.Sent.{with_datagram}
use Rattle.world.specs.Growing.{HasGrown}
use Rattle.world.proofs.datagrams.Datagrams.enter_all.Given as goal

abbrev pub invariant-loop-text : goal.invariant-loop-text
invariant-loop-text l =
    (l.self ≡ fold with_datagram l.initial.self (texts_in (take l.text-index l.texts)))
    × HasGrown l.initial.self l.self
