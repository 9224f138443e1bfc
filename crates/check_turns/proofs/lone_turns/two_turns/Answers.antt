use Rattle.std.proofs.Common.{refl}
use Rattle.lone_node.specs.Handed.{AllBuilds}
use Rattle.check_turns.proofs.TwoTurns.{took_two}
use Rattle.check_turns.proofs.lone_turns.two_turns.Goals as goal

pub returns-clause-led : goal.returns-clause-led
returns-clause-led g c =
    (c.turn-one.new.self, c.turn-one.ensures, (c.turn-other.new.self, c.turn-other.ensures, refl))

pub returns-clause-took : goal.returns-clause-took
returns-clause-took g c =
    took_two g.D.Disk g.P.Port (AllBuilds c.args.builds.now) c.args.solo.now
    c.turn-one.new.self c.turn-other.new.self c.turn-one.result c.turn-other.result
    c.turn-one.ensures c.turn-other.ensures
