use Rattle.std.proofs.Common.{◌≡◌, drop}
use Rattle.serde_json.specs.View.{items_view}
use Rattle.traces.specs.Fields.{all_of, package_in}
use Rattle.traces.proofs.Lists.{behind}
use Rattle.traces.proofs.files.packages.Given as goal

abbrev pub invariant-loop-item : goal.invariant-loop-item
invariant-loop-item l =
    all_of package_in (items_view l.item-items) ≡ behind (l.packages.items) (all_of package_in (items_view (drop l.item-index l.item-items)))
