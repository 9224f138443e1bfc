use Rattle.std.proofs.Common.{◌∙◌, subst, Option, ap}
use Rattle.serde_json.specs.Data.{Data}
use Rattle.serde_json.specs.View.{view}
use Rattle.json.specs.Value.{value_view}
use Rattle.traces.specs.inside.Given.{Gives}
use Rattle.traces.specs.Trace.{value_of}
use Rattle.traces.proofs.TreeTexts.{tree_value}
use Rattle.traces.proofs.stream.untreed.Goals as goal

pub returns : goal.returns
returns c =
    let text = c.in_ok-text.ensures in
    let same = ap value_of c.as_slice.ensures.value ∙ tree_value (value_view c.args.tree.now) c.in_ok-text.text.items c.requires.numbers c.requires.nests text.utf8 text.text in
    let P : Option Data → Type 0 = λ o. Gives view c.value.result o in
    subst P same c.value.ensures
