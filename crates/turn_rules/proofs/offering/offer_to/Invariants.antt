use Rattle.std.proofs.Common.{[], take}
use Rattle.node.specs.Parcels.{each_to, texts_in}
use Rattle.turn_rules.specs.Offered.{WasOffered, parcels_from}
use Rattle.datagram_ports.specs.Kept.{GoesOnBy, KeepsVouching}
use Rattle.turn_rules.proofs.offering.offer_to.Given as goal

abbrev pub invariant-loop-text : goal.invariant-loop-text
invariant-loop-text g l =
    GoesOnBy (parcels_from l.from (each_to (texts_in (take l.text-index l.texts)) l.to))
    (g.P.Port.offered l.initial.port) (g.P.Port.offered l.port)
    × GoesOnBy [] (g.P.Port.given l.initial.port) (g.P.Port.given l.port)
    × WasOffered g.P.Port.does l.initial.port
    (parcels_from l.from (each_to (texts_in (take l.text-index l.texts)) l.to)) l.port
    × KeepsVouching g.P.Port.vouches l.initial.port l.port
