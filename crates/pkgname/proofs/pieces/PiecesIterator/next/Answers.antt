use Rattle.std.proofs.Common.{rules}
use Rattle.pkgname.proofs.pieces.PiecesIterator.next.Goals as goal

pub returns-in-None-clause-steps : goal.returns-in-None-clause-steps
returns-in-None-clause-steps c = search rules
