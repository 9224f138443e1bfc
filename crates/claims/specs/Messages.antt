-- What members send each other about one path. A message that was sent may arrive at any member, at
-- any time, any number of times.
use Rattle.std.specs.Prelude.{ℕ, Option}
use Rattle.claims.specs.Claims.{Claim}
use Rattle.claims.specs.Votes.{Ballot, PromiseOf}

-- what members say to each other
pub data Message (V : Type 0) : Type 0 where
  -- A member asks for promises of its claim.
  Offer : Claim → Message V
  Promise : PromiseOf V → Message V
  -- The claim's member asks for votes for its proposal.
  Propose : Ballot V → Message V
  -- the sender, and the claim that it votes for
  Vote : ℕ → Claim → Message V
  -- the sender, the claim that it rejects, and the one that it promised
  Nay : ℕ → Claim → Option Claim → Message V
  -- The value is agreed.
  Agreed : V → Message V
  -- A member asks for the agreed value.
  Ask : Message V
