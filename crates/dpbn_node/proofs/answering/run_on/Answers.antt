use Rattle.dpbn_node.proofs.answering.run_on.Goals as goal

pub returns-in-Ok-clause-shown : goal.returns-in-Ok-clause-shown
returns-in-Ok-clause-shown g c =
    let ran = c.in_ok-solo.ensures.ran in
    record {
      begun = ran.begun;
      has_begun = ran.has_begun;
      opened = record {
        before = ran.opened.before;
        opened = ran.opened.opened;
        is = record {
          after = c.in_ok-solo.solo;
          run = ran.opened.is;
          is_line = c.in-Ok.ensures;
        };
      };
    }
