use Rattle.std.proofs.Common.{◌≡◌, ◌==◌, true, codes, rules}
use Rattle.std.specs.Prelude.{bytes_eq}
use Rattle.serde_json.specs.View.{view}
use Rattle.traces.specs.Events.{torn_stop_in}
use Rattle.traces.specs.Fields.{count_in}
use Rattle.traces.proofs.event.torn_stop.Goals as goal

pub returns : goal.returns
unfolding torn_stop_in
returns c =
    let torn : bytes_eq c.in_ok-word.word.now (codes "torn") ≡ true = search rules in
    let four : (count_in (view c.args.value.now) == 4) ≡ true = search rules in
    simp (c.in_ok-bytes.ensures, c.in_ok-input.ensures, c.in_ok-word.ensures, torn, four) (rw c.new.ensures at c.stop_in.ensures)
