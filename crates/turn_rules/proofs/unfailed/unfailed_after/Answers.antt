use Rattle.std.proofs.Common.{◌∙◌, sym}
use Rattle.node.specs.Step.{after, taken_by}
use Rattle.turn_rules.proofs.FailedBelow.{none_below, taken_below}
use Rattle.turn_rules.proofs.unfailed.unfailed_after.Goals as goal

pub returns-then-notes_held-clause-taken : goal.returns-then-notes_held-clause-taken
returns-then-notes_held-clause-taken c = λ n p is below.
    none_below (after n (taken_by n c.args.ready.now)).member p

pub returns-else-notes_held-clause-taken : goal.returns-else-notes_held-clause-taken
returns-else-notes_held-clause-taken c = λ n p is below.
    taken_below n is c.args.ready.now (sym c.notes_held.ensures ∙ c.if-notes_held.false) p
    c.args.from below
