use Rattle.std.proofs.Common.{ap, arith, inl, inr, is_some}
use Rattle.std.proofs.lemmas.Result.{err_from_is_err_and}
use Rattle.check_turns.proofs.Asked.{and_then, in_a_turn, so_often}
use Rattle.check_turns.proofs.Going.{answered, both}
use Rattle.check_turns.proofs.Idle.{if_nothing}
use Rattle.check_turns.specs.Going.{event_in}
use Rattle.check_turns.proofs.two.two_turns.Goals as goal

pub returns-in_err-one : goal.returns-in_err-one
returns-in_err-one g c =
    let p = err_from_is_err_and c.from_residual.result c.from_residual.ensures.1 in
    let old = c.args.cluster.now in
    let mid = c.turn.new.self in
    let port = g.P.Port in
    let e = c.turn.ensures in
    rw (p.1, p.2) (record {
      goes_on = tt;
      idle = tt;
      asked = so_often port 1 2 old.port mid.port (omega arith)
          (in_a_turn port old mid c.args.first.now c.turn.result e.chosen e.nothing e.refused);
      refused = inl c.in_err-one.ensures.refused;
    })

pub returns-in_err-other : goal.returns-in_err-other
returns-in_err-other g c =
    let p = err_from_is_err_and c.from_residual-in_err-other.result
    c.from_residual-in_err-other.ensures.1 in
    let old = c.args.cluster.now in
    let mid = c.turn.new.self in
    let new = c.turn-2.new.self in
    let port = g.P.Port in
    let e = c.turn.ensures in
    let f = c.turn-2.ensures in
    let one = c.in_ok-one.ensures in
    rw (p.1, p.2) (record {
      goes_on = tt;
      idle = tt;
      asked = and_then port 1 1 old.port mid.port new.port
          (in_a_turn port old mid c.args.first.now c.turn.result e.chosen e.nothing e.refused)
          (in_a_turn port mid new c.args.second.now c.turn-2.result f.chosen f.nothing f.refused);
      refused = inr (
        mid,
        c.in_ok-one.one,
        answered old mid e.fixed.0 e.fixed.1 c.in_ok-one.one one.happened one.kept one.same,
        c.in_err-other.ensures.refused,
      );
    })

pub returns : goal.returns
returns g c =
    let old = c.args.cluster.now in
    let mid = c.turn.new.self in
    let new = c.turn-2.new.self in
    let port = g.P.Port in
    let e = c.turn.ensures in
    let f = c.turn-2.ensures in
    let one = c.in_ok-one.ensures in
    let other = c.in_ok-other.ensures in
    record {
      goes_on = both old mid new (event_in c.in_ok-one.one) (event_in c.in_ok-other.other)
          (answered old mid e.fixed.0 e.fixed.1 c.in_ok-one.one one.happened one.kept one.same)
          (answered mid new f.fixed.0 f.fixed.1 c.in_ok-other.other other.happened other.kept
          other.same);
      idle = λ none. if_nothing mid new f.fixed.1 f.headline.world.0 f.headline.world.1 port
          c.args.second.now c.in_ok-other.other other.nothing other.same (ap is_some none);
      asked = and_then port 1 1 old.port mid.port new.port
          (in_a_turn port old mid c.args.first.now c.turn.result e.chosen e.nothing e.refused)
          (in_a_turn port mid new c.args.second.now c.turn-2.result f.chosen f.nothing f.refused);
      refused = tt;
    }
