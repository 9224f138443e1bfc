use Rattle.std.proofs.Common.{arith, inr, sym, []}
use Rattle.std.proofs.lemmas.Grind.{common_steps}
use Rattle.pkgpath.proofs.FirstFault.{path_of-directory}
use Rattle.pkgpath.proofs.spelling.read_directory.Goals as goal

pub returns-in-Some : goal.returns-in-Some
returns-in-Some c = inr (path_of-directory c.args.text.now c.args.text.now [] c.requires.filled c.requires.short c.requires.alone c.in-Some.fault (sym c.in-Some.ensures))

pub returns : goal.returns
returns c = grind (arith, common_steps)
