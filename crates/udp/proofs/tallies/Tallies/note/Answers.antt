use Rattle.std.proofs.Common.{arith, rules}
use Rattle.udp.proofs.TallyLemmas.{with_tally-beyond, with_tally-set}
use Rattle.udp.specs.Tallies.{after}
use Rattle.udp.proofs.tallies.Tallies.note.Goals as goal

pub returns-then-member-len-clause-members : goal.returns-then-member-len-clause-members
returns-then-member-len-clause-members c =
    rw c.seen.ensures (with_tally-set (after c.args.self.now.now c.args.came) c.args.member c.args.self.now.members.items
    c.index-before.result.now c.index-before.result.now (omega (arith, c.len.ensures, c.if-member-len.true)) (search rules))

pub returns-else-member-len-clause-members : goal.returns-else-member-len-clause-members
returns-else-member-len-clause-members c =
    with_tally-beyond (after c.args.self.now.now c.args.came) c.args.member c.args.self.now.members.items
    (omega (arith, c.len.ensures, c.if-member-len.false))
