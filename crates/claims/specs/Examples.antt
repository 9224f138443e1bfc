-- Runs of three members, and of one node, that do agree. They show that the laws are not vacuous.
use Rattle.std.specs.Prelude.{ℕ, true, None, Some, ◌||◌, ◌==◌, is_some, Option, List, [], ◌∷◌}
use Rattle.claims.specs.Claims.{Claim}
use Rattle.claims.specs.Votes.{Ballot}
use Rattle.claims.specs.Member.{Member, Stage}
use Rattle.claims.specs.Step.{Start, Built, Deliver}
use Rattle.claims.specs.World.{Event, Take, Stop, StopIn, Restart}
use Rattle.claims.specs.AgreedList.{Entry, Needs}
use Rattle.claims.specs.Nodes.{Happening, Does, Local, Comes}

-- three members of equal weight
abbrev pub three : List ℕ
three = 1 ∷ 1 ∷ 1 ∷ []

-- Member 0 opens a claim, 0 and 1 promise it, 0 builds 7 and proposes it, and both vote. Member 0
-- receives both votes, and 2 receives what is agreed. A message is identified by the number of
-- messages sent after it.
abbrev pub plain : List (Event ℕ)
plain =
    -- Offer, Promise 0, Promise 1
    Take 0 (Start 0) ∷ Take 0 (Deliver 0) ∷ Take 1 (Deliver 1)
    ∷ Take 0 (Deliver 0) ∷ Take 0 (Deliver 1)
    -- Propose, Vote 0, Vote 1
    ∷ Take 0 (Built 7) ∷ Take 0 (Deliver 0) ∷ Take 1 (Deliver 1)
    -- then Agreed
    ∷ Take 0 (Deliver 0) ∷ Take 0 (Deliver 1) ∷ Take 2 (Deliver 0)
    ∷ []

-- As in `plain` up to the proposal, which only 1 receives. It stops inside that step: its note
-- stays, and no vote is sent. Member 2 opens a greater claim and learns of 7 from member 1, so 7 is
-- proposed again and agreed.
abbrev pub taken_over : List (Event ℕ)
taken_over =
    -- Offer, Promise 0, Promise 1
    Take 0 (Start 0) ∷ Take 0 (Deliver 0) ∷ Take 1 (Deliver 1)
    ∷ Take 0 (Deliver 0) ∷ Take 0 (Deliver 1)
    -- Propose
    ∷ Take 0 (Built 7) ∷ StopIn 1 (Deliver 0) ∷ Stop 0 ∷ Restart 1
    -- Offer, Promise 1, Promise 2
    ∷ Take 2 (Start 0) ∷ Take 1 (Deliver 0) ∷ Take 2 (Deliver 1)
    -- then Propose, Vote 2, Vote 1
    ∷ Take 2 (Deliver 0) ∷ Take 2 (Deliver 1) ∷ Take 2 (Deliver 0) ∷ Take 1 (Deliver 1)
    ∷ []

-- Path 1 needs what is agreed for path 0.
abbrev pub zero_first : Needs ℕ
zero_first held p v = p == 0 || is_some (held 0)

-- A single node agrees on path 0, and then on path 1.
abbrev pub alone : List (Happening ℕ)
alone =
    Does 0 (Local 0 (Start 0)) ∷ Does 0 (Comes 0) ∷ Does 0 (Comes 0)
    ∷ Does 0 (Local 0 (Built 7)) ∷ Does 0 (Comes 0) ∷ Does 0 (Comes 0)
    ∷ Does 0 (Local 1 (Start 0)) ∷ Does 0 (Comes 0) ∷ Does 0 (Comes 0)
    ∷ Does 0 (Local 1 (Built 8)) ∷ Does 0 (Comes 0)
    ∷ []

-- A single node builds for path 1 first, which is refused.
abbrev pub too_early : List (Happening ℕ)
too_early =
    Does 0 (Local 1 (Start 0))
    ∷ Does 0 (Comes 0)
    ∷ Does 0 (Comes 0)
    ∷ Does 0 (Local 1 (Built 8))
    ∷ Does 0 (Comes 0)
    ∷ Does 0 (Comes 0)
    ∷ []

-- what is agreed for both paths, latest first
abbrev pub one_and_zero : List (Entry ℕ)
one_and_zero = record { path = 1; value = 8 } ∷ record { path = 0; value = 7 } ∷ []

-- the claim with this round and member
abbrev pub claim : ℕ → ℕ → Claim
claim round member = record { round = round; member = member }

-- a member that promised the claim, and holds nothing
abbrev pub bound_to : Claim → Option (Ballot ℕ) → Stage ℕ → Member ℕ
bound_to c vote stage = record {
  opened = 1;
  promised = Some c;
  voted = vote;
  held = None;
  up = true;
  stage = stage;
}
