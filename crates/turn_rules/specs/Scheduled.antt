-- What a node does for a scheduler, if it has nothing to answer and received nothing.
use Rattle.std.specs.Prelude.{ℕ, Option, None, Some, option_and_then}
use Rattle.protocol.specs.State.{Building, Gathering, OpenClaim, Progress, State, Voting}
use Rattle.protocol.specs.declared.input.Input.{Input}
use Rattle.protocol.specs.declared.input.Input.TheVariants as inputs
use Rattle.turn_rules.specs.Own.{renewed}
use Rattle.turn_rules.specs.declared.wish.Wish.{Wish}
use Rattle.turn_rules.specs.declared.wish.Wish.TheVariants.{Claim, Ask}

-- the input that the wish asks the member to handle; it claims with its own number as the host
abbrev pub asked_for : Wish → State → Input
asked_for (Claim path above) s = inputs.Claim path s.me above
asked_for (Ask path) s = inputs.Ask path

-- What a member does about its open claim:
-- - nothing while the claim waits for its build;
-- - a nudge if no greater claim blocks it;
-- - if a greater claim blocks it, nothing if it has no build yet, and otherwise a new claim above
--   that.
abbrev pub goes_on : State → OpenClaim → Progress → Option ℕ → Option Input
goes_on s o (Gathering c joined k) None = Some inputs.Nudge
goes_on s o (Gathering c joined k) (Some round) = None
goes_on s o (Building c) above = None
goes_on s o (Voting b joined) above = Some (renewed s o above)

-- what the member does about its open claim, if it has one
abbrev pub going_on : Option ℕ → State → Option Input
going_on above s = option_and_then (λ o. goes_on s o o.progress above) s.claim

-- what is wished, or else what the member does about its open claim, which claims up to this round
-- may block
abbrev pub scheduled : Option Wish → Option ℕ → State → Option Input
scheduled None above s = going_on above s
scheduled (Some w) above s = Some (asked_for w s)
