-- A member's step for one path, case by case: what it notes, what it sends, and what the member is
-- afterwards. In each case the first line that applies decides.
use Rattle.std.specs.Prelude.{ℕ, suc, max, not, ◌&&◌, List, Option, Some, None, if◌then◌else◌}
use Rattle.std.specs.Prelude.{slice_get, option_map}
use Rattle.claims.specs.Claims.{Claim, claim_same, is_above, is_below, is_promised}
use Rattle.claims.specs.Quorums.{Quorums, nobody, with_member}
use Rattle.claims.specs.Votes.{Ballot, PromiseOf, ballot, is_voted, kept_report}
use Rattle.claims.specs.Messages.{Message, Offer, Promise, Propose, Vote, Nay, Agreed, Ask}
use Rattle.claims.specs.Member.{Member, Note, Opened, Promised, Voted, Held, Stage, Closed}
use Rattle.claims.specs.Member.{Gathering, Building, Voting}

-- the result of a step: the member, its note, and the message that it sends
pub record Outcome (V : Type 0) : Type 0 where
  pub member : Member V
  pub note : Option (Note V)
  pub send : Option (Message V)

-- what a member may be asked for one path
pub data Input (V : Type 0) : Type 0 where
  -- Open a claim with a round above this one.
  Start : ℕ → Input V
  -- The value is built.
  Built : V → Input V
  -- The value cannot be built.
  Failed : Input V
  -- Send again what has no answer yet.
  Nudge : Input V
  -- A message arrives, identified by the number of messages sent after it.
  Deliver : ℕ → Input V
  -- Ask the others for the agreed value.
  Inquire : Input V

-- notes and sends nothing
abbrev pub still : {V : Type 0} → Member V → Outcome V
still x = record { member = x; note = None; send = None }

-- sends a message
abbrev pub says : {V : Type 0} → Member V → Message V → Outcome V
says x message = record { member = x; note = None; send = Some message }

-- writes a note
abbrev pub notes : {V : Type 0} → Member V → Note V → Outcome V
notes x note = record { member = x; note = Some note; send = None }

-- writes a note, then sends a message
abbrev pub notes_and_says : {V : Type 0} → Member V → Note V → Message V → Outcome V
notes_and_says x note message = record { member = x; note = Some note; send = Some message }

-- Start. Refused if the member holds the value. Otherwise the new round is one above the given one
-- and all rounds that the member opened.
abbrev pub on_start : {V : Type 0} → ℕ → Member V → Option V → ℕ → Option (Outcome V)
on_start i x (Some v) above = None
on_start i x None above =
    let round = suc (max above x.opened) in
    let c : Claim = record { round = round; member = i } in
    Some (notes_and_says
    (record x { opened = round; stage = Gathering c nobody None })
    (Opened round)
    (Offer c))

-- Built. Refused unless the open claim waits for a value; the value then becomes its proposal.
abbrev pub on_built : {V : Type 0} → Member V → Stage V → V → Option (Outcome V)
on_built x Closed v = None
on_built x (Gathering c S k) v = None
on_built x (Building c) v =
    Some (says (record x { stage = Voting (ballot c v) nobody }) (Propose (ballot c v)))
on_built x (Voting b S) v = None

-- Failed. Refused unless the open claim waits for a value; the claim is then dropped.
abbrev pub on_failed : {V : Type 0} → Member V → Stage V → Option (Outcome V)
on_failed x Closed = None
on_failed x (Gathering c S k) = None
on_failed x (Building c) = Some (still (record x { stage = Closed }))
on_failed x (Voting b S) = None

-- Nudge. Refused without an open claim; otherwise the offer or the proposal is sent again.
abbrev pub on_nudge : {V : Type 0} → Member V → Stage V → Option (Outcome V)
on_nudge x Closed = None
on_nudge x (Gathering c S k) = Some (says x (Offer c))
on_nudge x (Building c) = Some (still x)
on_nudge x (Voting b S) = Some (says x (Propose b))

-- Inquire. Refused if the member holds the value.
abbrev pub on_inquire : {V : Type 0} → Member V → Option V → Option (Outcome V)
on_inquire x (Some v) = None
on_inquire x None = Some (says x Ask)

-- An offer of c. It is promised if c is above the promised claim. If c is the promised claim and
-- the member has not voted for it, the promise is repeated. Otherwise the offer is rejected.
abbrev pub on_offer : {V : Type 0} → ℕ → Member V → Claim → Outcome V
on_offer i x c =
    let promise = Promise (record { member = i; claim = c; report = x.voted }) in
    if is_above c x.promised
    then notes_and_says (record x { promised = Some c }) (Promised c) promise
    else (if is_promised c x.promised && not (is_voted c x.voted)
    then says x promise
    else says x (Nay i c x.promised))

-- A proposal. The member votes for it, unless it promised a greater claim or its last vote is for
-- this one. If its last vote is for this one and the claim is still the promised one, it repeats
-- the vote. Otherwise it rejects the proposal.
abbrev pub on_propose : {V : Type 0} → ℕ → Member V → Ballot V → Outcome V
on_propose i x b =
    if not (is_below b.claim x.promised) && not (is_voted b.claim x.voted)
    then notes_and_says
    (record x { promised = Some b.claim; voted = Some b })
    (Voted b)
    (Vote i b.claim)
    else (if is_voted b.claim x.voted && is_promised b.claim x.promised
    then says x (Vote i b.claim)
    else says x (Nay i b.claim x.promised))

-- After a quorum promised: the reported value is proposed again, or, if none was reported, a value
-- must be built.
abbrev pub on_quorum : {V : Type 0} → Member V → Claim → Option (Ballot V) → Outcome V
on_quorum x c None = still (record x { stage = Building c })
on_quorum x c (Some b) =
    says (record x { stage = Voting (ballot c b.value) nobody }) (Propose (ballot c b.value))

-- A promise of the claim that gathers promises. Its sender joins, and its report is kept if it is
-- the greatest so far.
abbrev pub on_promise : {V : Type 0} → Quorums → Member V → Stage V → PromiseOf V → Outcome V
on_promise enough x Closed p = still x
on_promise enough x (Gathering c S k) p =
    if claim_same p.claim c
    then (if enough (with_member S p.member)
    then on_quorum x c (kept_report k p.report)
    else still (record x { stage = Gathering c (with_member S p.member) (kept_report k p.report) }))
    else still x
on_promise enough x (Building c) p = still x
on_promise enough x (Voting b S) p = still x

-- A vote for the claim's proposal. Its sender joins. Once a quorum has voted, the member holds the
-- value, sends it to the others, and closes the claim.
abbrev pub on_vote : {V : Type 0} → Quorums → Member V → Stage V → ℕ → Claim → Outcome V
on_vote enough x Closed m c = still x
on_vote enough x (Gathering d S k) m c = still x
on_vote enough x (Building d) m c = still x
on_vote enough x (Voting b S) m c =
    if claim_same c b.claim
    then (if enough (with_member S m)
    then notes_and_says
    (record x { held = Some b.value; stage = Closed }) (Held b.value) (Agreed b.value)
    else still (record x { stage = Voting b (with_member S m) }))
    else still x

-- An agreed value. The member holds it, unless it already holds one, and drops an open claim.
abbrev pub on_agreed : {V : Type 0} → Member V → Option V → V → Outcome V
on_agreed x None v = notes (record x { held = Some v; stage = Closed }) (Held v)
on_agreed x (Some u) v = still x

-- A question for the agreed value. A member that holds it answers.
abbrev pub on_ask : {V : Type 0} → Member V → Option V → Outcome V
on_ask x None = still x
on_ask x (Some v) = says x (Agreed v)

-- what member i does when a message arrives
abbrev pub on_message : {V : Type 0} → Quorums → ℕ → Member V → Message V → Outcome V
on_message enough i x (Offer c) = on_offer i x c
on_message enough i x (Promise p) = on_promise enough x x.stage p
on_message enough i x (Propose b) = on_propose i x b
on_message enough i x (Vote m c) = on_vote enough x x.stage m c
on_message enough i x (Nay m c p) = still x
on_message enough i x (Agreed v) = on_agreed x x.held v
on_message enough i x Ask = on_ask x x.held

-- what member i does on an input, or None if it refuses
abbrev pub answer : {V : Type 0} → Quorums → ℕ → Member V → List (Message V) → Input V
    → Option (Outcome V)
answer enough i x sent (Start above) = on_start i x x.held above
answer enough i x sent (Built v) = on_built x x.stage v
answer enough i x sent Failed = on_failed x x.stage
answer enough i x sent Nudge = on_nudge x x.stage
answer enough i x sent (Deliver k) = option_map (on_message enough i x) (slice_get sent k)
answer enough i x sent Inquire = on_inquire x x.held
