use Rattle.std.proofs.Common.{◌∷◌, ◌++◌, ◌∙◌, [], ap, map, slice_index_or, sym, take}
use Rattle.std.proofs.lemmas.List.{map-append, take_more}
use Rattle.wire.specs.Spelling.{datagram_text}
use Rattle.node.specs.Parcels.{texts_in}
use Rattle.node.proofs.written.all_texts.Goals as goal

pub loop-datagram-preserved : goal.loop-datagram-preserved
loop-datagram-preserved c =
    let all = c.args.datagrams.now in
    let k = c.loop-datagram.datagram-index in
    let datagram = c.datagram-item.result in
    let told = c.in_ok-text_of.ensures ∙ ap datagram_text c.datagram-item.is in
    ap texts_in c.in_ok-push.ensures.items
    ∙ (map-append (λ text. text.items) c.loop-datagram.texts.items (c.in_ok-text_of.field-0 ∷ [])
    ∙ ((λ i. c.loop-datagram.invariant i ++ told i ∷ [])
    ∙ (sym (map-append datagram_text (take k all) (slice_index_or all k datagram ∷ []))
    ∙ ap (map datagram_text) (sym (take_more all k datagram c.loop-datagram-test.true)))))
