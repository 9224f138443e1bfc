use Rattle.std.proofs.Common.{Option, Vec, [], ◌∷◌, ◌++◌, ◌∙◌, ap, subst, sym, ℕ}
use Rattle.std.specs.declared.alloc.Global.{Global}
use Rattle.faults.specs.Bytes.{Text}
use Rattle.node.specs.Parcels.{each_to, texts_in}
use Rattle.datagram_ports.specs.Calls.{Sent}
use Rattle.datagram_ports.specs.Kept.{Arrived, GoesOnBy, Parcel}
use Rattle.turn_rules.proofs.Offerings.{goes_on_more, more_offered, one_offered, text_more}
use Rattle.turn_rules.specs.Offered.{IsSent, WasOffered, parcels_from}
use Rattle.std.proofs.Common.{List, take}
use Rattle.turn_rules.proofs.offering.offer_to.Goals as goal

pub grant-requires : goal.grant-requires
grant-requires g c =
    let sends = c.args.step.now.sends.now in
    subst (IsSent sends) (sym c.as_slice-bytes.ensures.value)
    (subst (λ (t : Vec ℕ Global). IsSent sends t.items) (sym c.text-item.is)
    (c.requires c.loop-text.text-index c.text-item.result c.loop-text-test.true))

pub loop-text-preserved : goal.loop-text-preserved
loop-text-preserved g c =
    let i = c.loop-text.invariant in
    let s = c.send.ensures in
    let granted = c.grant.ensures in
    let from = c.args.from in
    let to = c.args.to in
    let before = c.args.port.now in
    let between = c.loop-text.port in
    let after = c.send.new.self in
    let first : List Parcel = parcels_from from (each_to (texts_in (take c.loop-text.text-index c.args.texts.now)) to) in
    let parcel : Parcel = record { from = from; to = to; text = c.as_slice-bytes.result.now } in
    let all = text_more from to c.args.texts.now c.loop-text.text-index c.text-item.result c.loop-text-test.true c.text-item.is
    ∙ ap (λ (t : Text). first ++ record { from = from; to = to; text = t } ∷ []) (sym c.as_slice-bytes.ensures.value) in (
      subst (λ (l : List Parcel). GoesOnBy l (g.P.Port.offered before) (g.P.Port.offered after)) (sym all)
          (goes_on_more first (parcel ∷ []) (g.P.Port.offered before) (g.P.Port.offered between) (g.P.Port.offered after) i.0
          (subst (λ (o : Option (List Parcel)). GoesOnBy (parcel ∷ []) o (g.P.Port.offered after)) granted.offered s.offered)),
      goes_on_more [] [] (g.P.Port.given before) (g.P.Port.given between) (g.P.Port.given after) i.1
          (subst (λ (o : Option (List Arrived)). GoesOnBy [] o (g.P.Port.given after)) granted.given s.given),
      subst (λ (l : List Parcel). WasOffered g.P.Port.does before l after) (sym all)
          (more_offered g.P.Port.does before between after first (parcel ∷ []) i.2
          (one_offered g.P.Port.does between after parcel c.send.result (granted.does (Sent parcel c.send.result) after s.does))),
      λ text known. s.vouches_on text (granted.vouches_on text (i.3 text known)),
    )
