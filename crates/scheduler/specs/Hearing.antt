-- What a desk keeps of what others said of units.
use Rattle.std.specs.Prelude.{◌≡◌, ◌==◌, ◌&&◌, ℕ, Bool, Err, false, not, Ok, Option, None, Result, Some, if◌then◌else◌, length, nat_eq, nat_lt}
use Rattle.std.specs.Duration.{as_nanos}
use Rattle.std.specs.declared.time.Instant.{Instant}
use Rattle.claims.specs.Claims.{claim_same}
use Rattle.claims.specs.declared.claim.Claim.{Claim}
use Rattle.ballots.specs.declared.message.Body.{Body}
use Rattle.ballots.specs.declared.message.Body.TheVariants.{Ask, Nay, Offer}
use Rattle.ballots.specs.declared.message.Message.{Message}
use Rattle.engine.specs.Division.{number_found}
use Rattle.faults.specs.Bytes.{Text}
use Rattle.indexmap.specs.IndexMap.{get}
use Rattle.turn_rules.specs.Wishes.{is_of_another}
use Rattle.protocol.specs.State.{State, Value, facts_at}
use Rattle.wire.specs.Reading.{datagram_of}
use Rattle.wire.specs.declared.WireFault.{WireFault}
use Rattle.wire.specs.declared.datagram.Datagram.{Datagram}
use Rattle.wire.specs.declared.datagram.Datagram.TheVariants.{Piece, Whole}
use Rattle.scheduler.specs.Waiting.{has_waited, since_promised}
use Rattle.scheduler.specs.Tries.{after_notice, after_offer, is_counted}
use Rattle.scheduler.specs.declared.desk.Desk.{Desk}
use Rattle.scheduler.specs.declared.failures.Failures.{Failures}
use Rattle.scheduler.specs.declared.heard.GivenBack.{GivenBack}
use Rattle.scheduler.specs.declared.heard.Named.{Named}

-- ---- what nays named

-- Whether a nay named a claim of this member.
abbrev pub is_named_of : ℕ → Option Named → Bool
is_named_of sender None = false
is_named_of sender (Some named) = named.claim.member == sender

-- What is known of nays for a unit once its message from this member came. A nay is kept if it
-- rejects a claim of this desk's member and names another's. A nay is forgotten if the member that
-- it named asks for the unit, since that one doesn't build it.
abbrev pub named_after : State → ℕ → Body Value → Instant → Option Named → Option Named
named_after s sender (Nay refused claim) now old =
    if (refused.member == s.me) && not (claim.member == s.me)
    then Some (record { claim = claim; since = now }) else old
named_after s sender Ask now old =
    if not (sender == s.me) && is_named_of sender old then None else old
named_after s sender _ now old = old

-- ---- what was given back

-- The claim that the sender gives back by a question for the unit: the one that the member promised
-- last, if it is the sender's and was seen for a slot. A question may have been sent before a claim
-- that came first.
abbrev pub given_by : State → Desk → ℕ → ℕ → Instant → Option Claim → Option Claim
given_by s d u sender now None = None
given_by s d u sender now (Some c) =
    if not (sender == s.me) && ((c.member == sender)
    && has_waited (as_nanos d.pace.slot) (since_promised (Some c) (get nat_eq d.seen u)) now)
    then Some c else None

-- What is known to be given back of a unit, once this claim was, if it is one.
abbrev pub with_back : Option Claim → Instant → Option GivenBack → Option GivenBack
with_back None now old = old
with_back (Some c) now None = Some (record { claim = c; since = now })
with_back (Some c) now (Some old) =
    if claim_same old.claim c then Some old else Some (record { claim = c; since = now })

-- What is known to be given back of a unit once its message from this member came: a question may
-- give it back.
abbrev pub back_after : State → Desk → ℕ → ℕ → Body Value → Instant → Option GivenBack
    → Option GivenBack
back_after s d u sender Ask now old =
    with_back (given_by s d u sender now (facts_at s u).promised) now old
back_after s d u sender _ now old = old

-- ---- where else builds failed

-- What is known of where else builds of a unit failed, once its message came: an offer may say that
-- its member tries again.
abbrev pub failures_after : State → ℕ → Body Value → Option Failures → Option Failures
failures_after s u (Offer claim) old = after_offer (facts_at s u).promised claim old
failures_after s u _ old = old

-- ---- messages

-- by unit, this, of the unit that was spoken of; and what was, of each other one
abbrev pub put : {A : Type 0} → (ℕ → A) → ℕ → A → ℕ → A
put all u new v = if nat_eq u v then new else all v

-- The desk keeps of a message on the unit what it says of it, and of other units all that was.
pub record HearsOf (s : State) (now : Instant) (m : Message Value) (u : ℕ) (old new : Desk) : Type 0
  where
    pub named : (v : ℕ) → get nat_eq new.named v
        ≡ put (get nat_eq old.named) u
        (named_after s m.sender m.body now (get nat_eq old.named u)) v
    pub given_back : (v : ℕ) → get nat_eq new.given_back v
        ≡ put (get nat_eq old.given_back) u
        (back_after s old u m.sender m.body now (get nat_eq old.given_back u)) v
    pub failed_elsewhere : (v : ℕ) → get nat_eq new.failed_elsewhere v
        ≡ put (get nat_eq old.failed_elsewhere) u
        (failures_after s u m.body (get nat_eq old.failed_elsewhere u)) v

-- So it does of the unit that the message names, if there is one; else all stays.
abbrev pub HearsMessage : State → Instant → Message Value → Option ℕ → Desk → Desk → Type 0
HearsMessage s now m None old new =
    (new.named ≡ old.named) × (new.given_back ≡ old.given_back)
    × (new.failed_elsewhere ≡ old.failed_elsewhere)
HearsMessage s now m (Some u) old new = HearsOf s now m u old new

-- How long a datagram may be that is read: longer than any question or nay.
abbrev pub longest : ℕ
longest = 1024

-- the message, if it is a datagram with a whole one
abbrev pub whole_of : Result Datagram WireFault → Option (Message Value)
whole_of (Ok (Whole m)) = Some m
whole_of (Ok (Piece p)) = None
whole_of (Err fault) = None

-- The message that is read: the datagram has a whole one, and is no longer than that.
abbrev pub message_in : Text → Option (Message Value)
message_in bytes = if nat_lt longest (length bytes) then None else whole_of (datagram_of bytes)

-- So it does of that message; of any other datagram it keeps nothing.
abbrev pub HearsWhole : State → Instant → Option (Message Value) → Desk → Desk → Type 0
HearsWhole s now None old new =
    (new.named ≡ old.named) × (new.given_back ≡ old.given_back)
    × (new.failed_elsewhere ≡ old.failed_elsewhere)
HearsWhole s now (Some m) old new = HearsMessage s now m (number_found s.division m.path) old new

-- So it does of a datagram.
abbrev pub Hears : State → Instant → Text → Desk → Desk → Type 0
Hears s now bytes old new = HearsWhole s now (message_in bytes) old new

-- ---- notices

-- The desk keeps of a notice of this member for the unit that a build failed there, if it counts;
-- else all stays.
abbrev pub HearsNotice : State → ℕ → ℕ → Desk → Desk → Type 0
HearsNotice s from u old new =
    (v : ℕ) → get nat_eq new.failed_elsewhere v
    ≡ (if is_counted s from u
    then put (get nat_eq old.failed_elsewhere) u
    (after_notice from (facts_at s u).promised (get nat_eq old.failed_elsewhere u)) v
    else get nat_eq old.failed_elsewhere v)
