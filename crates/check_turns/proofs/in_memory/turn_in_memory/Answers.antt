use Rattle.check_turns.proofs.InMemory.{turns_in_memory}
use Rattle.check_turns.proofs.in_memory.turn_in_memory.Goals as goal

pub returns : goal.returns
returns g c =
    turns_in_memory c.args.cluster.now c.turn.new.self c.args.builds.now c.turn.result
    c.turn.ensures.calls
