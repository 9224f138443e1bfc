use Rattle.std.proofs.Common.{◌∙◌, ap, slice_get, subst}
use Rattle.cluster_turns.proofs.Owns.{elsewhere_seen, fault_lent, own_lent}
use Rattle.cluster_turns.proofs.Places.{stands_at, up_seen}
use Rattle.cluster_turns.specs.Unfailed.{EachFailedBelow}
use Rattle.cluster_turns.proofs.chosen.own_at.Goals as goal

pub returns-in-Ok-clause-part : goal.returns-in-Ok-clause-part
returns-in-Ok-clause-part g c =
    let nodes = c.args.nodes.now.items in
    let p = c.args.pending.now in
    let at = c.args.at in
    own_lent nodes p at c.index_mut.result.now c.own_from.new.node c.requires.there
    c.index_mut.ensures.value c.own_from.ensures.same
    (up_seen nodes c.as_slice.result.now at c.is_up.result c.as_slice.ensures.value
    c.is_up.ensures c.if-not-is_up.false)
    c.as_slice-4.result.now
    (elsewhere_seen nodes p at c.as_slice-2.result.now c.open_elsewhere-elsewhere.result.items
    c.as_slice-4.result.now c.as_slice-2.ensures.value c.as_slice-4.ensures.value
    c.open_elsewhere-elsewhere.ensures)
    c.above-above.result c.above-above.ensures c.in-Ok.readied c.in-Ok.ensures.part

pub returns-in-Err-clause-refused : goal.returns-in-Err-clause-refused
returns-in-Err-clause-refused g c =
    let nodes = c.args.nodes.now.items in
    let p = c.args.pending.now in
    let at = c.args.at in
    fault_lent nodes p at c.index_mut.result.now c.own_from.new.node c.requires.there
    c.index_mut.ensures.value c.own_from.ensures.same
    (up_seen nodes c.as_slice.result.now at c.is_up.result c.as_slice.ensures.value
    c.is_up.ensures c.if-not-is_up.false)
    c.as_slice-4.result.now
    (elsewhere_seen nodes p at c.as_slice-2.result.now c.open_elsewhere-elsewhere.result.items
    c.as_slice-4.result.now c.as_slice-2.ensures.value c.as_slice-4.ensures.value
    c.open_elsewhere-elsewhere.ensures)
    c.above-above.result c.above-above.ensures c.in-Err.fault c.told.result c.told.ensures
    c.in-Err.ensures.refused

pub own_from-requires-clause-below : goal.own_from-requires-clause-below
own_from-requires-clause-below g c =
    c.unfailed_at-from.ensures.below c.index_mut.result.now
    (ap (λ xs. slice_get xs c.args.at) c.as_slice-3.ensures.value
    ∙ stands_at c.args.nodes.now.items c.args.at c.index_mut.result.now c.index_mut.ensures.value
    c.requires.there)

pub returns-in-Ok-clause-below : goal.returns-in-Ok-clause-below
returns-in-Ok-clause-below g c =
    subst (λ xs. EachFailedBelow xs c.args.pending.now c.unfailed_at-from.new.unfailed)
    c.as_slice-3.ensures.value c.unfailed_at-from.ensures.each

pub returns-in-Err-clause-below : goal.returns-in-Err-clause-below
returns-in-Err-clause-below g c =
    subst (λ xs. EachFailedBelow xs c.args.pending.now c.unfailed_at-from.new.unfailed)
    c.as_slice-3.ensures.value c.unfailed_at-from.ensures.each
