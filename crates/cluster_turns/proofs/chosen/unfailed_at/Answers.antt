use Rattle.cluster_turns.proofs.Unfailed.{at_lent, moved_at}
use Rattle.cluster_turns.proofs.chosen.unfailed_at.Goals as goal

pub returns-clause-each : goal.returns-clause-each
returns-clause-each g c =
    moved_at c.args.nodes.now c.args.pending.now c.args.unfailed.now c.args.at
    c.unfailed_from-from.result c.requires.below
    (at_lent c.args.nodes.now c.args.pending.now c.args.at c.index-nodes-at.result
    c.member.result.now c.unfailed_from-from.result c.requires.there c.index-nodes-at.is
    c.member.ensures.member c.unfailed_from-from.ensures.below)

pub returns-clause-below : goal.returns-clause-below
returns-clause-below g c =
    at_lent c.args.nodes.now c.args.pending.now c.args.at c.index-nodes-at.result
    c.member.result.now c.unfailed_from-from.result c.requires.there c.index-nodes-at.is
    c.member.ensures.member c.unfailed_from-from.ensures.below
