use Rattle.std.proofs.Common.{◌+◌, arith}
use Rattle.check_turns.proofs.Asked.{and_then, never, so_often}
use Rattle.check_turns.proofs.Going.{no_turn, one_more}
use Rattle.check_turns.proofs.run.take_turns.Goals as goal

pub loop-turn-init : goal.loop-turn-init
loop-turn-init g c = record {
  goes_on = no_turn c.args.cluster.now;
  asked = never g.P.Port c.args.cluster.now.port;
}

pub loop-turn-preserved : goal.loop-turn-preserved
loop-turn-preserved g c =
    let old = c.args.cluster.now in
    let mid = c.loop-turn.cluster in
    let new = c.has_nothing.new.cluster in
    record {
      goes_on = one_more old mid new c.loop-turn.invariant.goes_on c.has_nothing.ensures.goes_on;
      asked = and_then g.P.Port c.loop-turn.turn 1 old.port mid.port new.port
          c.loop-turn.invariant.asked c.has_nothing.ensures.asked;
    }

pub returns-then-has_nothing-clause-goes_on : goal.returns-then-has_nothing-clause-goes_on
returns-then-has_nothing-clause-goes_on g c =
    one_more c.args.cluster.now c.loop-turn.cluster c.has_nothing.new.cluster
    c.loop-turn.invariant.goes_on c.has_nothing.ensures.goes_on

pub returns-then-has_nothing-clause-asked : goal.returns-then-has_nothing-clause-asked
returns-then-has_nothing-clause-asked g c =
    let old = c.args.cluster.now in
    let mid = c.loop-turn.cluster in
    let new = c.has_nothing.new.cluster in
    let port = g.P.Port in
    so_often port (c.loop-turn.turn + 1) c.args.most old.port new.port (omega arith)
    (and_then port c.loop-turn.turn 1 old.port mid.port new.port c.loop-turn.invariant.asked
    c.has_nothing.ensures.asked)

pub returns-clause-goes_on : goal.returns-clause-goes_on
returns-clause-goes_on g c = c.loop-turn.invariant.goes_on

pub returns-clause-asked : goal.returns-clause-asked
returns-clause-asked g c =
    so_often g.P.Port c.loop-turn.turn c.args.most c.args.cluster.now.port
    c.loop-turn.cluster.port (omega arith) c.loop-turn.invariant.asked
