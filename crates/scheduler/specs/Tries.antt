-- At which members builds of units failed, and when a member says so of its own.
use Rattle.std.specs.Prelude.{◌≡◌, ◌+◌, ◌-◌, ◌==◌, ◌&&◌, ℕ, Bool, true, false, not, List, Option, None, Some, filter, if◌then◌else◌, is_some, length, nat_eq, nat_le, nat_lt, option_map, replicate, set, slice_get, slice_index_or, take}
use Rattle.std.specs.declared.time.Instant.{Instant}
use Rattle.claims.specs.Claims.{is_above, is_promised}
use Rattle.claims.specs.declared.claim.Claim.{Claim}
use Rattle.faults.specs.Bytes.{Text}
use Rattle.indexmap.specs.IndexMap.{IndexMap, get}
use Rattle.protocol.specs.State.{State}
use Rattle.scheduler.specs.Waiting.{has_passed}
use Rattle.scheduler.specs.declared.failures.Failures.{Failures}
use Rattle.scheduler.specs.declared.notices.Notices.{Notices}

-- ---- at which other members a build of a unit failed

-- whether a build failed there, by member
abbrev pub members_of : Option Failures → List Bool
members_of None = replicate 9 false
members_of (Some f) = f.members

-- Whether a build failed at this member.
abbrev pub has_member : ℕ → Option Failures → Bool
has_member m f = slice_index_or (members_of f) m false

-- At how many other members a build failed. Each counts once.
abbrev pub tries_at : Option Failures → ℕ
tries_at f = length (filter (λ b. b) (members_of f))

-- these, and the member's, with what is promised for the unit now
abbrev pub with_member : ℕ → Option Claim → Option Failures → Failures
with_member m promised f = record { members = set (members_of f) m true; promised = promised }

-- What is known of a unit after a notice of this member: a build failed there.
abbrev pub after_notice : ℕ → Option Claim → Option Failures → Option Failures
after_notice m promised f = if has_member m f then f else Some (with_member m promised f)

-- What is known of a unit after an offer of this claim: its member claims the unit again, since
-- somebody removed the mark there. The claim has to be the promised one, and above what was
-- promised when the last failure was added, because an offer may come late.
abbrev pub after_offer : Option Claim → Claim → Option Failures → Option Failures
after_offer promised c None = None
after_offer promised c (Some f) =
    if is_promised c promised && is_above c f.promised
    then Some (record f { members = set f.members c.member false }) else Some f

-- Whether a notice of this member for the unit counts: there are such a member and such a unit, and
-- the member is another one.
abbrev pub is_counted : State → ℕ → ℕ → Bool
is_counted s from u =
    not (from == s.me)
    && (nat_lt from (length s.weights) && nat_lt u (length s.division.units))

-- ---- notices of this member

-- after how many nanoseconds the next notice is repeated
abbrev pub again : ℕ
again = 1000000000

-- the place, or the first one if it is past the last
abbrev pub place_in : ℕ → ℕ → ℕ
place_in place count = if nat_lt place count then place else 0

-- the unit of the last build that failed and of which no notice was sent yet
abbrev pub unsent : Notices → Option ℕ
unsent n = slice_get n.unsent.items (length n.unsent.items - 1)

module _ {S : Type 0} where
  -- the unit, if its build failed
  abbrev pub if_failed : IndexMap ℕ Text S → ℕ → Option ℕ
  if_failed failed u = if is_some (get nat_eq failed u) then Some u else None

  -- the unit of the notice that is repeated next
  abbrev pub repeated : Notices → IndexMap ℕ Text S → Option ℕ
  repeated n failed =
      option_map (λ e. e.0) (slice_get failed.entries (place_in n.place (length failed.entries)))

  -- that unit, if a second passed since the last notice
  abbrev pub repeated_at : Notices → IndexMap ℕ Text S → Instant → Option ℕ
  repeated_at n failed now = if has_passed again n.sent_at now then repeated n failed else None

  -- the unit of the notice that is due, by the last build of which none was sent yet
  abbrev pub due_after : Notices → IndexMap ℕ Text S → Instant → Option ℕ → Option ℕ
  due_after n failed now (Some u) = if_failed failed u
  due_after n failed now None = repeated_at n failed now

  -- The unit of the notice that is due: of a failed build of which none was sent yet; or, once a
  -- second, of the next of all failed builds.
  abbrev pub due_notice : Notices → IndexMap ℕ Text S → Instant → Option ℕ
  due_notice n failed now = due_after n failed now (unsent n)

  -- the place of the next one then
  abbrev pub place_after : Notices → IndexMap ℕ Text S → Instant → Option ℕ → ℕ
  place_after n failed now (Some u) = n.place
  place_after n failed now None =
      if is_some (repeated_at n failed now) then place_in n.place (length failed.entries) + 1
      else n.place

  -- when the last one was sent then
  abbrev pub sent_after : Notices → IndexMap ℕ Text S → Instant → Option ℕ → Instant
  sent_after n failed now (Some u) = now
  sent_after n failed now None = if is_some (repeated_at n failed now) then now else n.sent_at

  -- The one that is due is sent: of its build none is due at once any more, and after the last
  -- build comes the first again.
  pub record AreSent (old : Notices) (failed : IndexMap ℕ Text S) (now : Instant) (new : Notices)
      : Type 0
    where
      pub unsent : new.unsent.items ≡ take (length old.unsent.items - 1) old.unsent.items
      pub place : new.place ≡ place_after old failed now
          (slice_get old.unsent.items (length old.unsent.items - 1))
      pub sent_at : new.sent_at ≡ sent_after old failed now
          (slice_get old.unsent.items (length old.unsent.items - 1))
