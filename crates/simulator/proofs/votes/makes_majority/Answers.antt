use Rattle.std.proofs.lemmas.Grind.{common_steps}
use Rattle.std.proofs.Common.{◌≤◌, ℕ, List, length, arith, sym, subst}
use Rattle.ballots.specs.Support.{set_of}
use Rattle.simulator.proofs.Voting.{none_makes_none}
use Rattle.simulator.proofs.votes.makes_majority.Goals as goal

pub returns-then-sender-len : goal.returns-then-sender-len
returns-then-sender-len c =
    let out : length c.weights.result.now ≤ c.args.sender = omega arith in
    sym (none_makes_none c.args.tally.weights (set_of c.args.tally) c.args.sender
    (subst (λ (ws : List ℕ). length ws ≤ c.args.sender) c.weights.ensures out))

pub returns-then-is_majority : goal.returns-then-is_majority
returns-then-is_majority c = grind (arith, common_steps)

pub returns-else-is_majority : goal.returns-else-is_majority
returns-else-is_majority c = grind (arith, common_steps)
