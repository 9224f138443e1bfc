use Rattle.lone_node.proofs.solo.Solo.turn_with.Goals as goal

pub returns : goal.returns
returns g c =
    let said = c.take_turn.ensures in
    record {
      done = record {
        taken = said.taken;
        heard = said.heard;
        nothing = said.nothing;
        same = said.same;
      };
      refuses = record { refused = said.refused; left = said.left; device = said.device };
      log = record {
        logged = said.logged;
        on_log = said.on_log;
        any_moment = said.any_moment;
        untouched = said.untouched;
        kept = said.kept;
      };
      vouches_on = said.vouches_on;
    }
