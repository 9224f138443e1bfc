use Rattle.dpbn_node.proofs.starting.open.Goals as goal

pub returns-in-Ok-clause-opened : goal.returns-in-Ok-clause-opened
returns-in-Ok-clause-opened c =
    let said = c.in-Ok.ensures in
    record {
      opened = said.node;
      kept = said.kept;
      notes = said.notes;
      on_log = said.on_log;
      any_moment = said.any_moment;
      one_answer = said.one_answer;
    }
