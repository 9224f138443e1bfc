use Rattle.dpbn_build.proofs.answering.build_on.Goals as goal

pub returns-in-Ok-clause-built : goal.returns-in-Ok-clause-built
returns-in-Ok-clause-built g c =
    let ran = c.in_ok-solo.ensures.built in (
      c.in_ok-solo.ensures.member,
      record {
        begun = ran.begun;
        has_begun = ran.has_begun;
        opened = record {
          before = ran.opened.before;
          opened = ran.opened.opened;
          is = record {
            after = c.in_ok-solo.solo;
            built = ran.opened.is;
            is_line = c.in-Ok.ensures;
          };
        };
      },
    )
