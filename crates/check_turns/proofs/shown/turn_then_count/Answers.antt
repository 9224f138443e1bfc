use Rattle.check_turns.proofs.Showing.{shows}
use Rattle.check_turns.proofs.shown.turn_then_count.Goals as goal

pub returns : goal.returns
returns g c = shows c.turn-answer.new.self c.args.node c.counts.result c.counts.ensures
