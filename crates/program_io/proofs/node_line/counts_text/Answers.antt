use Rattle.std.proofs.Common.{rules, append_assoc}
use Rattle.program_io.proofs.node_line.counts_text.Goals as goal

pub returns : goal.returns
returns c = search (rules, append_assoc)
