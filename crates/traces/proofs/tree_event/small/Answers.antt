use Rattle.std.proofs.Common.{◌≡◌, ◌==◌, Some, subst, false, rules, ne_eqb}
use Rattle.std.specs.Prelude.{slice_index}
use Rattle.json.specs.Find.{as_number}
use Rattle.json.specs.Value.{value_view}
use Rattle.traces.proofs.TreeEvents.{small_tree}
use Rattle.traces.proofs.tree_event.small.Goals as goal

pub returns : goal.returns
returns c =
    let said : as_number (value_view c.args.value.now) ≡ Some c.in_ok-text.text.now = search (rules, c.as_number.ensures, c.branch-text.ensures, c.in_ok-text.is, c.in_ok-text.was) in
    let bare : (slice_index c.in_ok-text.text.now 0 == 43) ≡ false = subst (λ t. (slice_index t 0 == 43) ≡ false) c.as_bytes-bytes.ensures.value (ne_eqb _ _ c.if-bytes-eq43.false) in
    small_tree (value_view c.args.value.now) c.in_ok-text.text.now c.parse.result c.ok.result said bare c.parse.ensures.value.0 c.ok.ensures.value
