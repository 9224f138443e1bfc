-- Which build of a unit a member knows.
use Rattle.std.specs.Prelude.{ℕ, Option, None, Some, nat_eq, if◌then◌else◌, option_and_then}
use Rattle.std.specs.Option.{option_or}
use Rattle.faults.specs.Bytes.{Text}
use Rattle.protocol.specs.State.{Building, Gathering, OpenClaim, Progress, State, Value, Voting}
use Rattle.protocol.specs.State.{facts_at}
use Rattle.protocol.specs.Step.{unit_in}

-- the build that a claim has proposed, if it has reached the voting stage
abbrev pub proposal_of : Progress → Option Value
proposal_of (Gathering claim joined report) = None
proposal_of (Building claim) = None
proposal_of (Voting proposal joined) = Some proposal.value

-- what the open claim proposes, if there is an open claim and it is for the unit
abbrev pub proposal_in : Option OpenClaim → ℕ → Option Value
proposal_in None u = None
proposal_in (Some claim) u = if nat_eq claim.unit u then proposal_of claim.progress else None

-- the build of the unit that is held, or else the one that the open claim proposes
abbrev pub known_at : State → ℕ → Option Value
known_at s u = option_or (facts_at s u).held (proposal_in s.claim u)

-- the known build of the unit that the path names, if it names one
abbrev pub known_build : State → Text → Option Value
known_build s path = option_and_then (known_at s) (unit_in s path)
