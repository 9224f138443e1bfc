use Rattle.std.proofs.Common.{arith, rules}
use Rattle.listing.proofs.LineLemmas.{trimmed_is}
use Rattle.listing.proofs.line.trimmed.Goals as goal
use Rattle.listing.proofs.line.trimmed.Goals.{then-loop-start-test+else-is_blank, else-loop-start-test, then-loop-end-test+else-is_blank-2, else-loop-end-test}

pub returns : goal.returns
returns c =
    trimmed_is c.args.text.now c.loop-start.start c.loop-end.end c.loop-end.invariant.0 c.loop-end.invariant.1 c.loop-start.invariant.1
    (elim c.loop-start-test.branch [ then-loop-start-test+else-is_blank w ↦ λ l. search rules | else-loop-start-test w ↦ λ l. absurd (omega arith) ])
    c.loop-end.invariant.2
    (elim c.loop-end-test.branch [ then-loop-end-test+else-is_blank-2 w ↦ λ l. search rules | else-loop-end-test w ↦ λ l. absurd (omega arith) ])
