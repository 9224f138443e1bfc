use Rattle.std.proofs.Common.{◌≡◌, ◌==◌, true, rules}
use Rattle.serde_json.specs.View.{view}
use Rattle.traces.specs.Events.{clean_stop_in}
use Rattle.traces.specs.Fields.{count_in}
use Rattle.traces.proofs.event.clean_stop.Goals as goal

pub returns : goal.returns
unfolding clean_stop_in
returns c =
    let three : (count_in (view c.args.value.now) == 3) ≡ true = search rules in
    simp (c.in_ok-input.ensures, c.in_ok-text.ensures, c.in_ok-left.ensures, three) c.stop_in.ensures
