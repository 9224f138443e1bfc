use Rattle.std.proofs.Common.{[], take}
use Rattle.node.specs.Parcels.{parcels_to, texts_in}
use Rattle.turn_rules.specs.Offered.{WasOffered, parcels_from}
use Rattle.datagram_ports.specs.Kept.{GoesOnBy, KeepsVouching}
use Rattle.turn_rules.proofs.offering.offer.Given as goal

abbrev pub invariant-loop-to : goal.invariant-loop-to
invariant-loop-to g l =
    GoesOnBy (parcels_from l.from (parcels_to (take l.to-index l.receivers) (texts_in l.texts)))
    (g.P.Port.offered l.initial.port) (g.P.Port.offered l.port)
    × GoesOnBy [] (g.P.Port.given l.initial.port) (g.P.Port.given l.port)
    × WasOffered g.P.Port.does l.initial.port
    (parcels_from l.from (parcels_to (take l.to-index l.receivers) (texts_in l.texts))) l.port
    × KeepsVouching g.P.Port.vouches l.initial.port l.port
