use Rattle.std.proofs.Common.{List, Vec, [], get_or, subst, sym, take, ◌∙◌, ℕ}
use Rattle.std.specs.Prelude.{All}
use Rattle.std.specs.declared.alloc.Global.{Global}
use Rattle.faults.specs.Bytes.{Text}
use Rattle.node.specs.Parcels.{each_to, parcels_to, texts_in}
use Rattle.datagram_ports.specs.Kept.{GoesOnBy, Parcel}
use Rattle.turn_rules.proofs.Offerings.{each_is_sent, goes_on_more, more_offered, receiver_more}
use Rattle.turn_rules.specs.Offered.{IsSent, WasOffered, parcels_from}
use Rattle.turn_rules.proofs.offering.offer.Goals as goal

pub offer_to-requires : goal.offer_to-requires
offer_to-requires g c =
    let texts = c.parts.result.1.now in
    subst (λ (sends : List (ℕ × Text)). All (λ (t : Vec ℕ Global). IsSent sends t.items) texts)
    (sym (c.of-step.ensures ∙ c.parts.ensures))
    (each_is_sent c.parts.result.0.now texts c.loop-to.to-index c.loop-to-test.true)

pub loop-to-preserved : goal.loop-to-preserved
loop-to-preserved g c =
    let i = c.loop-to.invariant in
    let s = c.offer_to.ensures in
    let from = c.args.from in
    let before = c.args.port.now in
    let between = c.loop-to.port in
    let after = c.offer_to.new.port in
    let texts = texts_in c.parts.result.1.now in
    let first : List Parcel = parcels_from from (parcels_to (take c.loop-to.to-index c.parts.result.0.now) texts) in
    let one : List Parcel = parcels_from from (each_to texts (get_or c.parts.result.0.now c.loop-to.to-index 0)) in
    let all = receiver_more from c.parts.result.0.now texts c.loop-to.to-index 0 c.loop-to-test.true in (
      subst (λ (l : List Parcel). GoesOnBy l (g.P.Port.offered before) (g.P.Port.offered after)) (sym all)
          (goes_on_more first one (g.P.Port.offered before) (g.P.Port.offered between) (g.P.Port.offered after) i.0 s.offered),
      goes_on_more [] [] (g.P.Port.given before) (g.P.Port.given between) (g.P.Port.given after) i.1 s.given,
      subst (λ (l : List Parcel). WasOffered g.P.Port.does before l after) (sym all)
          (more_offered g.P.Port.does before between after first one i.2 s.calls),
      λ text known. s.vouches_on text (i.3 text known),
    )
