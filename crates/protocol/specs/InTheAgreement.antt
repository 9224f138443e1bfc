-- A member in the terms of the agreement theory, in which a path is the number of a unit.
use Rattle.std.specs.Prelude.{ℕ, true, List, filter, Option, None, Some, option_map}
use Rattle.std.specs.List.{range_with_len}
use Rattle.claims.specs.Quorums.{Members, named_in}
use Rattle.claims.specs.Votes.{Ballot}
use Rattle.claims.specs.Member as members
use Rattle.claims.specs.Messages as messages
use Rattle.claims.specs.Nodes as nodes
use Rattle.ballots.specs.declared.message.Body.{Body}
use Rattle.ballots.specs.declared.message.Body.TheVariants.{Offer, Promise, Propose, Vote, Agreed}
use Rattle.ballots.specs.declared.message.Body.TheVariants.{Ask, Nay}
use Rattle.ballots.specs.declared.message.Fact.{Fact}
use Rattle.ballots.specs.declared.message.Fact.TheVariants as fact
use Rattle.claims.specs.declared.claim.Claim.{Claim}
use Rattle.protocol.specs.State.{OpenClaim, Progress, Gathering, Building, Voting, State, Value}
use Rattle.protocol.specs.State.{facts_at}
use Rattle.std.specs.Prelude.{unwrap_or}

-- the progress of the open claim, as a stage
abbrev pub stage_of : Progress → members.Stage Value
stage_of (Gathering c joined k) = members.Gathering c (named_in joined) k
stage_of (Building c) = members.Building c
stage_of (Voting b joined) = members.Voting b (named_in joined)

-- the members of the set, among n, in order of number
abbrev pub members_in : ℕ → Members → List ℕ
members_in n S = filter S (range_with_len 0 n)

-- the progress of the claim of one of n members at this stage, if it is open
abbrev pub progress_of : ℕ → members.Stage Value → Option Progress
progress_of n members.Closed = None
progress_of n (members.Gathering c S k) = Some (Gathering c (members_in n S) k)
progress_of n (members.Building c) = Some (Building c)
progress_of n (members.Voting b S) = Some (Voting b (members_in n S))

-- the open claim, as a claim of a node
abbrev pub claim_of : OpenClaim → nodes.OpenClaim Value
claim_of o = record { path = o.unit; stage = stage_of o.progress }

-- the member, as a node that is up
abbrev pub node_of : State → nodes.Node Value
node_of s = record { facts = facts_at s; up = true; claim = option_map claim_of s.claim }

-- the theory's member for the unit
abbrev pub view : State → ℕ → members.Member Value
view s u = nodes.view (node_of s) u

-- ---- what the theory's member notes and says, as facts and bodies

-- what is noted
abbrev pub fact_in : members.Note Value → Fact Value
fact_in (members.Opened round) = fact.Opened round
fact_in (members.Promised c) = fact.Promised c
fact_in (members.Voted b) = fact.Voted b.claim b.value
fact_in (members.Held v) = fact.Held v

-- a claim and its value, as a pair
abbrev pub pair_of : Ballot Value → Claim × Value
pair_of b = (b.claim, b.value)

-- what is said, as a message body; a member that rejects a claim has always promised one
abbrev pub body_in : messages.Message Value → Body Value
body_in (messages.Offer c) = Offer c
body_in (messages.Promise p) = Promise p.claim (option_map pair_of p.report)
body_in (messages.Propose b) = Propose b.claim b.value
body_in (messages.Vote m c) = Vote c
body_in (messages.Nay m c promised) = Nay c (unwrap_or promised c)
body_in (messages.Agreed v) = Agreed v
body_in messages.Ask = Ask
