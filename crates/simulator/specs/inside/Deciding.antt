-- What the vote in a step decides.
use Rattle.std.specs.Prelude.{◌&&◌, ℕ, Bool, List, [], ◌∷◌, Option, None, Some, length, nat_lt, not, option_and_then, slice_set, if◌then◌else◌}
use Rattle.faults.specs.Bytes.{Text, is_among}
use Rattle.claims.specs.Claims.{claim_same}
use Rattle.claims.specs.Quorums.{Members, is_majority, with_member}
use Rattle.claims.specs.Votes.{Ballot}
use Rattle.claims.specs.declared.claim.Claim.{Claim}
use Rattle.ballots.specs.declared.message.Body.{Body}
use Rattle.ballots.specs.declared.message.Body.TheVariants as body
use Rattle.ballots.specs.declared.message.Fact.{Fact}
use Rattle.ballots.specs.declared.message.Fact.TheVariants as fact
use Rattle.ballots.specs.declared.message.Message.{Message}
use Rattle.ballots.specs.declared.message.Note.{Note}
use Rattle.node.specs.Prepared.{Prepared}
use Rattle.protocol.specs.State.{State, Value}
use Rattle.protocol.specs.Step.{facts_named}
use Rattle.protocol.specs.declared.sends.Send.{Send}
use Rattle.wire.specs.Spelling.{datagram_text}
use Rattle.wire.specs.declared.datagram.Datagram.TheVariants as datagram
use Rattle.wire.specs.declared.datagram.TheConstants.{SENDER_PLACE}

-- the place of the sender's number in a vote: after four bytes and the kind
abbrev pub sender_place : ℕ
sender_place = SENDER_PLACE

-- the claim that a body votes for
abbrev pub claim_voted : Body Value → Option Claim
claim_voted (body.Vote c) = Some c
claim_voted _ = None

-- the first message that is sent, if there is one
abbrev pub message_in : List Send → Option (Message Value)
message_in [] = None
message_in (s ∷ sends) = Some s.message

-- the members that sent this vote, each with its own number in it
abbrev pub voters_in : List ℕ → List Text → Text → Members
voters_in weights sent vote k =
    nat_lt k (length weights) && is_among sent (slice_set vote sender_place k)

-- the members that sent the same vote as this message
abbrev pub voters_of : List ℕ → List Text → Message Value → Members
voters_of weights sent m = voters_in weights sent (datagram_text (datagram.Whole m))

-- whether this sender's vote makes a majority that didn't exist before
abbrev pub makes_majority : List ℕ → Members → ℕ → Bool
makes_majority weights voters sender =
    is_majority weights (with_member voters sender) && not (is_majority weights voters)

-- the build that the fact is a vote for, under the claim
abbrev pub voted_in : Claim → Fact Value → Option Value
voted_in c (fact.Voted d v) = if claim_same d c then Some v else None
voted_in c _ = None

-- the build of the vote, if the vote is under the claim
abbrev pub value_under : Claim → Ballot Value → Option Value
value_under c b = if claim_same b.claim c then Some b.value else None

-- the build that a member's step votes for under the claim: by the note of the step, or by an
-- earlier one
abbrev pub voted_by : State → Option (Note Value) → Text → Claim → Option Value
voted_by s (Some n) name c = voted_in c n.fact
voted_by s None name c = option_and_then (value_under c) (facts_named s name).voted

-- the build that the message decides if a member sends it in a step, if it is a vote under this
-- claim
abbrev pub decided_by : List ℕ → List Text → State → Option (Note Value) → Message Value
    → Option Claim → Option Value
decided_by weights sent s noted m None = None
decided_by weights sent s noted m (Some c) =
    if makes_majority weights (voters_of weights sent m) m.sender
    then voted_by s noted m.path c else None

-- the build that the member's step decides, if it decides one
abbrev pub decision : List ℕ → List Text → State → Option Prepared → Option Value
decision weights sent s None = None
decision weights sent s (Some p) =
    option_and_then (λ m. decided_by weights sent s p.note m (claim_voted m.body))
    (message_in p.sends)
