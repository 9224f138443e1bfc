use Rattle.std.proofs.Common.{◌≡◌, ap, codes, sym, subst, ◌∙◌}
use Rattle.json.specs.Json.{string}
use Rattle.json.specs.Value.{value_view}
use Rattle.protocol.specs.Events.{Built}
use Rattle.traces.specs.Events.{event_in}
use Rattle.traces.specs.Fields.{files_in, number_of}
use Rattle.traces.specs.inside.Trees.{Reads, four, path_in}
use Rattle.traces.proofs.TreeEvents.{build_tree}
use Rattle.traces.proofs.tree_event.build.Goals as goal

pub returns : goal.returns
returns c =
    let e = c.in_ok-event in
    let f = c.in_ok-files in
    let n = c.in_ok-node in
    let u = c.in_ok-unit in
    let event : value_view c.args.first.now.1 ≡ string (codes "built") = ap value_view (sym e.ensures.value) ∙ c.in_ok-test_text.ensures in
    let files = subst (λ v. Reads files_in (value_view v) c.in_ok-read_files.field-0) f.ensures.value c.in_ok-read_files.ensures in
    let node = subst (λ v. Reads (number_of 255) (value_view v) c.in_ok-node-2.field-0) n.ensures.value c.in_ok-node-2.ensures.reads in
    let path = subst (λ v. Reads path_in (value_view v) c.in_ok-path.path) u.ensures.value c.in_ok-path.ensures in
    subst (λ given. Reads event_in (four c.args.first.now c.args.second.now c.args.third.now c.args.fourth.now) (Built c.in_ok-node-2.field-0 c.in_ok-path.path given)) (sym c.in_ok-packages.ensures)
    (build_tree c.args.first.now.0.now c.args.second.now.0.now c.args.third.now.0.now c.args.fourth.now.0.now (value_view c.args.first.now.1) (value_view c.args.second.now.1) (value_view c.args.third.now.1) (value_view c.args.fourth.now.1) c.in_ok-read_files.field-0 c.in_ok-node-2.field-0 c.in_ok-path.path e.ensures.key f.ensures.key n.ensures.key u.ensures.key event files node path)
