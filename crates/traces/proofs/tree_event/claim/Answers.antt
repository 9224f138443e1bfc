use Rattle.std.proofs.Common.{◌≡◌, ap, codes, sym, subst, ◌∙◌}
use Rattle.json.specs.Json.{string}
use Rattle.json.specs.Value.{value_view}
use Rattle.traces.specs.Events.{most}
use Rattle.traces.specs.Fields.{number_of}
use Rattle.traces.specs.inside.Trees.{Reads, path_in}
use Rattle.traces.proofs.TreeEvents.{claim_tree}
use Rattle.traces.proofs.tree_event.claim.Goals as goal

pub returns : goal.returns
returns c =
    let a = c.in_ok-above in
    let e = c.in_ok-event in
    let h = c.in_ok-host in
    let n = c.in_ok-node in
    let u = c.in_ok-unit in
    let above = subst (λ v. Reads (number_of most) (value_view v) c.in_ok-above-2.above) a.ensures.value c.in_ok-above-2.ensures.reads in
    let event : value_view c.args.second.now.1 ≡ string (codes "claim") = ap value_view (sym e.ensures.value) ∙ c.in_ok-test_text.ensures in
    let host = subst (λ v. Reads (number_of 65535) (value_view v) c.in_ok-host-2.field-0) h.ensures.value c.in_ok-host-2.ensures.reads in
    let node = subst (λ v. Reads (number_of 255) (value_view v) c.in_ok-node-2.field-0) n.ensures.value c.in_ok-node-2.ensures.reads in
    let path = subst (λ v. Reads path_in (value_view v) c.in_ok-path.path) u.ensures.value c.in_ok-path.ensures in
    claim_tree c.args.first.now.0.now c.args.second.now.0.now c.args.third.now.0.now c.args.fourth.now.0.now c.args.fifth.now.0.now (value_view c.args.first.now.1) (value_view c.args.second.now.1) (value_view c.args.third.now.1) (value_view c.args.fourth.now.1) (value_view c.args.fifth.now.1) c.in_ok-above-2.above c.in_ok-host-2.field-0 c.in_ok-node-2.field-0 c.in_ok-path.path a.ensures.key e.ensures.key h.ensures.key n.ensures.key u.ensures.key above event host node path
