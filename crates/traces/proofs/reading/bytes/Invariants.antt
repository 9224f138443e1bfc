use Rattle.std.proofs.Common.{◌≡◌, drop}
use Rattle.serde_json.specs.View.{items_view}
use Rattle.traces.specs.Fields.{all_of, number_of}
use Rattle.traces.proofs.Lists.{behind}
use Rattle.traces.proofs.reading.bytes.Given as goal

abbrev pub invariant-loop-item : goal.invariant-loop-item
invariant-loop-item l =
    all_of (number_of 255) (items_view l.item-items) ≡ behind l.numbers.items (all_of (number_of 255) (items_view (drop l.item-index l.item-items)))
