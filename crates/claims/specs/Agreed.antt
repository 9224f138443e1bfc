-- What is agreed. This is decided by what was sent, never by notes.
use Rattle.claims.specs.Claims.{Claim, claim_same}
use Rattle.claims.specs.Quorums.{Members, Quorums}
use Rattle.claims.specs.Votes.{Ballot}
use Rattle.claims.specs.Messages.{Message, Propose, Vote}
use Rattle.claims.specs.Member.{Stage, Closed, Gathering, Building, Voting}
use Rattle.claims.specs.Step.{Start, Built, Failed, Nudge, Deliver, Inquire}
use Rattle.claims.specs.World.{World, Event, Take, Stop, StopIn, Restart, WasProposed}
use Rattle.claims.specs.World.{after_event, start}
use Rattle.std.specs.Prelude.{◌≡◌, ℕ, Bool, true, false, ◌&&◌, ◌||◌, ◌==◌, List, ◌⊎◌, [], ◌∷◌}
use Rattle.std.specs.Prelude.{Option, Some, None, if◌then◌else◌}

-- Whether the message is a vote of member m for the claim.
abbrev pub is_vote : {V : Type 0} → Claim → ℕ → Message V → Bool
is_vote c m (Vote k d) = k == m && claim_same d c
is_vote c m _ = false

-- the members that sent a vote for the claim, according to the messages
abbrev pub voters : {V : Type 0} → List (Message V) → Claim → Members
voters [] c m = false
voters (x ∷ xs) c m = is_vote c m x || voters xs c m

-- The ballot is agreed: it was proposed, and a quorum sent votes for its claim.
abbrev pub IsAgreed : {V : Type 0} → Quorums → World V → Ballot V → Type 0
IsAgreed enough w b = (enough (voters w.sent b.claim) ≡ true) × WasProposed w b

-- the value of a proposal in the second list, if all messages together have a quorum of votes for
-- its claim
abbrev pub decided_value : {V : Type 0} → Quorums → List (Message V) → List (Message V) → Option V
decided_value enough all [] = None
decided_value enough all (Propose b ∷ xs) =
    if enough (voters all b.claim) then Some b.value else decided_value enough all xs
decided_value enough all (_ ∷ xs) = decided_value enough all xs

-- A value that is agreed stays; if there is none, it is what is decided now.
abbrev pub agreed_then : {V : Type 0} → Quorums → World V → Option V → Option V
agreed_then enough w None = decided_value enough w.sent w.sent
agreed_then enough w (Some v) = Some v

-- the agreed value after events from w on, if it was `a` before
abbrev pub agreed_from : {V : Type 0} → Quorums → List (Event V) → World V → Option V → Option V
agreed_from enough [] w a = a
agreed_from enough (e ∷ es) w a =
    let later = after_event enough w e in agreed_from enough es later (agreed_then enough later a)

-- the agreed value after the events: that of the first proposal for which a quorum sent votes
abbrev pub agreed_value : {V : Type 0} → Quorums → List (Event V) → Option V
agreed_value enough events = agreed_from enough events start None

-- None while nothing is agreed; otherwise the value of every agreed ballot.
abbrev pub IsValue : {V : Type 0} → Quorums → World V → Option V → Type 0
IsValue {V} enough w None = (b : Ballot V) → IsAgreed enough w b → ⊥
IsValue {V} enough w (Some v) =
    ((b : Ballot V) × IsAgreed enough w b × (b.value ≡ v))
    × ((b : Ballot V) → IsAgreed enough w b → b.value ≡ v)

-- The open claim waits for a value.
abbrev pub IsBuildingNow : {V : Type 0} → Stage V → Type 0
IsBuildingNow Closed = ⊥
IsBuildingNow (Gathering c S k) = ⊥
IsBuildingNow (Building c) = Unit {0}
IsBuildingNow (Voting b S) = ⊥

-- The event is a Built of this value at a member that is up and whose open claim waited for a
-- value.
abbrev pub Builds : {V : Type 0} → World V → Event V → V → Type 0
Builds w (Take i (Built u)) v =
    (u ≡ v) × ((w.members i).up ≡ true) × IsBuildingNow (w.members i).stage
Builds w (Take i (Start above)) v = ⊥
Builds w (Take i Failed) v = ⊥
Builds w (Take i Nudge) v = ⊥
Builds w (Take i (Deliver k)) v = ⊥
Builds w (Take i Inquire) v = ⊥
Builds w (Stop i) v = ⊥
Builds w (StopIn i input) v = ⊥
Builds w (Restart i) v = ⊥

-- One of the events from w on built the value.
abbrev pub IsBuilt : {V : Type 0} → Quorums → World V → List (Event V) → V → Type 0
IsBuilt enough w [] v = ⊥
IsBuilt enough w (e ∷ es) v = Builds w e v ⊎ IsBuilt enough (after_event enough w e) es v
