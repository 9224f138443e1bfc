use Rattle.std.proofs.Common.{arith, rules}
use Rattle.udp.proofs.TallyLemmas.{with_tally-beyond, with_tally-set}
use Rattle.udp.specs.Tallies.{unsent_once_more}
use Rattle.udp.proofs.tallies.Tallies.note_unsent.Goals as goal

pub returns-then-member-len-clause-members : goal.returns-then-member-len-clause-members
returns-then-member-len-clause-members c =
    rw c.with_one_unsent.ensures (with_tally-set unsent_once_more c.args.member c.args.self.now.members.items
    c.index-before.result.now c.index-before.result.now (omega (arith, c.len.ensures, c.if-member-len.true)) (search rules))

pub returns-else-member-len-clause-members : goal.returns-else-member-len-clause-members
returns-else-member-len-clause-members c =
    with_tally-beyond unsent_once_more c.args.member c.args.self.now.members.items
    (omega (arith, c.len.ensures, c.if-member-len.false))
