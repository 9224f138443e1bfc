use Rattle.std.proofs.Common.{◌≡◌, ap, codes, sym, subst, ◌∙◌}
use Rattle.json.specs.Json.{string}
use Rattle.json.specs.Value.{value_view}
use Rattle.traces.specs.Events.{most}
use Rattle.traces.specs.Fields.{number_of}
use Rattle.traces.specs.inside.Trees.{Reads}
use Rattle.traces.proofs.TreeEvents.{delivery_tree}
use Rattle.traces.proofs.tree_event.delivery.Goals as goal

pub returns : goal.returns
returns c =
    let d = c.in_ok-datagram in
    let e = c.in_ok-event in
    let n = c.in_ok-node in
    let datagram = subst (λ v. Reads (number_of most) (value_view v) c.in_ok-datagram-2.datagram) d.ensures.value c.in_ok-datagram-2.ensures.reads in
    let event : value_view c.args.second.now.1 ≡ string (codes "deliver") = ap value_view (sym e.ensures.value) ∙ c.in_ok-test_text.ensures in
    let node = subst (λ v. Reads (number_of 255) (value_view v) c.in_ok-node-2.field-0) n.ensures.value c.in_ok-node-2.ensures.reads in
    delivery_tree c.args.first.now.0.now c.args.second.now.0.now c.args.third.now.0.now (value_view c.args.first.now.1) (value_view c.args.second.now.1) (value_view c.args.third.now.1) c.in_ok-datagram-2.datagram c.in_ok-node-2.field-0 d.ensures.key e.ensures.key n.ensures.key datagram event node
