use Rattle.dpbr_status.proofs.text.status_by_letters.Goals as goal

pub returns-clause-ok : goal.returns-clause-ok
returns-clause-ok c = record {
  state = c.in_ok-letters.letters;
  tree_is = c.in_ok-letters.ensures.tree;
  are_held = c.in_ok-letters.ensures.held;
  status = c.in_ok-text.ensures;
}
