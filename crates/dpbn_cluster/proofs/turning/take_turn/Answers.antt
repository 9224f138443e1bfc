use Rattle.dpbn_cluster.proofs.turning.take_turn.Goals as goal

pub returns : goal.returns
returns g c =
    let e = c.turn-answer.ensures in (
      c.turn-answer.result,
      record {
        calls = e.calls;
        happened = e.happened;
        kept = e.kept;
        others = e.others;
        pending = e.pending;
        same = e.same;
        refused = e.refused;
        left = e.left;
        division = e.fixed.0;
        weights = e.fixed.1;
      },
    )
