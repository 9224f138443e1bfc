use Rattle.package_lists.proofs.Fields.{not_spelled}
use Rattle.package_lists.proofs.list_line.list_line.Goals as goal

pub returns-in_default-2-clause-none : goal.returns-in_default-2-clause-none
returns-in_default-2-clause-none c =
    not_spelled c.args.line.now c.in-Some.word.now c.in-Some.behind.now c.in-Some.ensures.pieces (rw c.in_default-2.is at c.in_ok-signature.ensures.none)
