use Rattle.json.specs.Value.{value_view}
use Rattle.traces.proofs.TreeEvents.{path_tree}
use Rattle.traces.proofs.tree_event.path.Goals as goal

pub returns : goal.returns
returns c = path_tree (value_view c.args.value.now) c.in_ok-text.field-0.now c.path_of.result c.in_ok-text.ensures c.path_of.ensures
