use Rattle.std.proofs.Common.{◌≡◌, ap, subst, sym, ◌∙◌}
use Rattle.std.specs.Prelude.{IfOk}
use Rattle.protocol.specs.Events.{event_view}
use Rattle.json.proofs.Trees.{view-Object}
use Rattle.json.specs.Json.{object}
use Rattle.json.specs.Value.{members_view, value_view}
use Rattle.traces.specs.Events.{event_in}
use Rattle.traces.specs.inside.Trees.{Reads, five, four, three}
use Rattle.traces.proofs.TreeEvents.{in_five, in_four, in_three}
use Rattle.traces.proofs.tree_event.tree_event.Goals as goal

pub returns-in-len3 : goal.returns-in-len3
returns-in-len3 c =
    let ms = c.as_slice.result.now in
    let members = in_three ms c.datagram-item.result c.event-item-then-this-lt4.result c.node-item-then-this-lt4.result c.in-len3.len_at_least c.in-len3.len_below c.datagram-item.is c.event-item-then-this-lt4.is c.node-item-then-this-lt4.is in
    let tree : value_view c.args.tree.now ≡ three c.datagram-item.result c.event-item-then-this-lt4.result c.node-item-then-this-lt4.result = ap value_view c.in-Object.is ∙ view-Object c.in-Object.members ∙ ap (λ ws. object (members_view ws)) (sym c.as_slice.ensures.value ∙ members) in
    subst (λ j. IfOk c.delivery.result (λ e. Reads event_in j (event_view e))) (sym tree) c.delivery.ensures

pub returns-in-len4 : goal.returns-in-len4
returns-in-len4 c =
    let ms = c.as_slice.result.now in
    let members = in_four ms c.event-item-then-this-lt5.result c.files-item.result c.node-item-then-this-lt5.result c.path-item.result c.in-len4.len_at_least c.in-len4.len_below c.event-item-then-this-lt5.is c.files-item.is c.node-item-then-this-lt5.is c.path-item.is in
    let tree : value_view c.args.tree.now ≡ four c.event-item-then-this-lt5.result c.files-item.result c.node-item-then-this-lt5.result c.path-item.result = ap value_view c.in-Object.is ∙ view-Object c.in-Object.members ∙ ap (λ ws. object (members_view ws)) (sym c.as_slice.ensures.value ∙ members) in
    subst (λ j. IfOk c.build.result (λ e. Reads event_in j (event_view e))) (sym tree) c.build.ensures

pub returns-in-len5 : goal.returns-in-len5
returns-in-len5 c =
    let ms = c.as_slice.result.now in
    let members = in_five ms c.above-item.result c.event-item-then-this-lt6.result c.host-item.result c.node-item-then-this-lt6.result c.path-item-then-this-lt6.result c.in-len5.len_at_least c.in-len5.len_below c.above-item.is c.event-item-then-this-lt6.is c.host-item.is c.node-item-then-this-lt6.is c.path-item-then-this-lt6.is in
    let tree : value_view c.args.tree.now ≡ five c.above-item.result c.event-item-then-this-lt6.result c.host-item.result c.node-item-then-this-lt6.result c.path-item-then-this-lt6.result = ap value_view c.in-Object.is ∙ view-Object c.in-Object.members ∙ ap (λ ws. object (members_view ws)) (sym c.as_slice.ensures.value ∙ members) in
    subst (λ j. IfOk c.claim.result (λ e. Reads event_in j (event_view e))) (sym tree) c.claim.ensures
