use Rattle.std.proofs.Common.{◌≡◌, ap, sym, subst, ◌∙◌}
use Rattle.json.specs.Json.{string}
use Rattle.json.specs.Value.{value_view}
use Rattle.traces.specs.Fields.{file_in}
use Rattle.traces.specs.inside.Trees.{Reads, two}
use Rattle.traces.proofs.TreeEvents.{named_tree}
use Rattle.traces.proofs.tree_event.named.Goals as goal

pub returns : goal.returns
returns c =
    let first = c.in_ok-value_at in
    let second = c.in_ok-value_at-2 in
    let hex : value_view c.args.first.now.1 ≡ string c.in_ok-hex.hex.now = ap value_view (sym first.ensures.value) ∙ c.in_ok-hex.ensures in
    let name : value_view c.args.second.now.1 ≡ string c.in_ok-name.name.now = ap value_view (sym second.ensures.value) ∙ c.in_ok-name.ensures in
    let called : c.in_ok-name-2.name.items ≡ c.in_ok-name.name.now = c.in_ok-name-2.ensures.items ∙ c.as_bytes.ensures.value in
    subst (λ n. Reads file_in (two c.args.first.now c.args.second.now) (record { name = n; bytes = c.in_ok-bytes.bytes.items })) (sym called)
    (named_tree c.args.first.now.0.now c.args.second.now.0.now c.in_ok-hex.hex.now c.in_ok-name.name.now (value_view c.args.first.now.1) (value_view c.args.second.now.1) c.in_ok-bytes.bytes.items first.ensures.key second.ensures.key hex name c.in_ok-bytes.ensures)
