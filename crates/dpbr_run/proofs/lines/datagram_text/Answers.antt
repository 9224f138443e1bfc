use Rattle.std.proofs.Common.{rules, append_assoc}
use Rattle.dpbr_run.proofs.lines.datagram_text.Goals as goal

pub returns : goal.returns
returns c = search (rules, append_assoc)
