-- What a desk keeps of what a node did.
use Rattle.std.specs.Prelude.{◌≡◌, ◌+◌, ◌++◌, ◌∷◌, ◌==◌, ◌⊎◌, ℕ, List, Option, None, Some, [], false, filter, if◌then◌else◌, is_some, nat_eq, not, option_and_then, position, slice_get}
use Rattle.std.specs.List.{remove}
use Rattle.turn_rules.specs.declared.act.Act.{Act}
use Rattle.turn_rules.specs.declared.act.Act.TheVariants.{Datagram, Own}
use Rattle.engine.specs.Division.{number_found}
use Rattle.faults.specs.Answers.{option_or}
use Rattle.faults.specs.Bytes.{Text}
use Rattle.indexmap.specs.IndexMap.{get, insert_entry}
use Rattle.indexmap.specs.IndexSet.{contains}
use Rattle.listing.specs.Tree.{position_of}
use Rattle.protocol.specs.State.{State}
use Rattle.protocol.specs.declared.input.Input.{Input}
use Rattle.protocol.specs.declared.input.Input.TheVariants as inputs
use Rattle.std.specs.declared.time.Instant.{Instant}
use Rattle.job_folder.specs.declared.fault.WorkFault.{WorkFault}
use Rattle.scheduler.specs.Hearing.{Hears}
use Rattle.scheduler.specs.declared.desk.Desk.{Desk}
use Rattle.scheduler.specs.declared.posted.Posted.{Posted}

-- ---- a build that failed

-- the unit whose build failed, as the member was informed
abbrev pub unit_failed : State → Input → Option ℕ
unit_failed s (inputs.Claim path host above) = None
unit_failed s (inputs.Built path given) = None
unit_failed s (inputs.Failed path) = number_found s.division path
unit_failed s inputs.Nudge = None
unit_failed s (inputs.Ask path) = None
unit_failed s (inputs.Message m) = None

-- the unit whose build failed by what the node did
abbrev pub failed_by : State → Act → Option ℕ
failed_by s (Own input) = unit_failed s input
failed_by s (Datagram bytes) = None

-- the place of the unit among these
abbrev pub place_of : List Posted → Option ℕ → Option ℕ
place_of posted unit = option_and_then (λ u. position (λ p. p.unit == u) posted) unit

-- these without that at the place
abbrev pub without_place : List Posted → Option ℕ → List Posted
without_place posted None = posted
without_place posted (Some k) = remove posted k

-- these without the unit's
abbrev pub without_unit : List Posted → Option ℕ → List Posted
without_unit posted unit = without_place posted (place_of posted unit)

-- the one of these at the place
abbrev pub posted_at : List Posted → Option ℕ → Option Posted
posted_at posted place = option_and_then (slice_get posted) place

-- names by unit, and that of this one, if there is one
abbrev pub with_name : List (ℕ × Text) → Option Posted → List (ℕ × Text)
with_name names None = names
with_name names (Some p) = insert_entry nat_eq names p.unit p.name

-- names by unit, and that of this unit, as it is among these
abbrev pub with_failed : List (ℕ × Text) → List Posted → Option ℕ → List (ℕ × Text)
with_failed names posted unit = with_name names (posted_at posted (place_of posted unit))

-- ---- marks and notices of a build that failed

-- these units, and that of the job, if there is one
abbrev pub with_pressing : List ℕ → Option Posted → List ℕ
with_pressing units None = units
with_pressing units (Some p) = units ++ p.unit ∷ []

-- A fault is returned only if a build failed that was out, and its mark couldn't be written. Then
-- the unit is among those whose marks are unwritten. If the mark was written, the unit isn't.
abbrev pub AreUnwritten : Desk → Option Posted → Option WorkFault → Desk → Type 0
AreUnwritten old None fault new = (fault ≡ None) × (new.unwritten ≡ old.unwritten)
AreUnwritten old (Some p) fault new =
    (v : ℕ) → contains nat_eq new.unwritten v
    ≡ (if nat_eq p.unit v then is_some fault else contains nat_eq old.unwritten v)

-- A notice is due at once for a build that failed, too.
abbrev pub AreUnsent : Desk → Option Posted → Desk → Type 0
AreUnsent old posted new =
    new.notices.unsent.items ≡ with_pressing old.notices.unsent.items posted

-- the job of the unit, if it is out
abbrev pub job_out : Desk → Option ℕ → Option Posted
job_out d unit = posted_at d.out.items (place_of d.out.items unit)

-- The desk keeps whether a failed build's mark couldn't be written, and that a notice of it is due.
abbrev pub IsMarkKept : Desk → Option ℕ → Option WorkFault → Desk → Type 0
IsMarkKept old unit fault new =
    AreUnwritten old (job_out old unit) fault new × AreUnsent old (job_out old unit) new

-- ---- a question

-- the position after this one, if there is one; else the first
abbrev pub place_after : Option ℕ → ℕ
place_after None = 0
place_after (Some p) = p + 1

-- these units without this one, if it is one
abbrev pub without_asked : List ℕ → Option ℕ → List ℕ
without_asked units None = units
without_asked units (Some u) = filter (λ v. not (v == u)) units

-- The desk keeps of a question its unit, the position after its package, and when it was asked.
abbrev pub IsQuestionKept : State → Text → Instant → Desk → Desk → Type 0
IsQuestionKept s path now old new =
    (new.last ≡ option_or (number_found s.division path) old.last)
    × (new.pressing.items ≡ without_asked old.pressing.items (number_found s.division path))
    × (new.next ≡ place_after (position_of s.division.tree path)) × (new.asked_at ≡ now)

-- The last question is what it was.
abbrev pub IsQuestionSame : Desk → Desk → Type 0
IsQuestionSame old new =
    (new.last ≡ old.last) × (new.next ≡ old.next) × (new.asked_at ≡ old.asked_at)

-- So it is, and a question is due at once for the units for which one was.
abbrev pub IsAllSame : Desk → Desk → Type 0
IsAllSame old new = IsQuestionSame old new × (new.pressing ≡ old.pressing)

-- The last question is what it was, and one is due at once for the unit, too, if it was out.
abbrev pub IsPressed : Desk → Option ℕ → Desk → Type 0
IsPressed old unit new =
    IsQuestionSame old new
    × (new.pressing.items ≡ with_pressing old.pressing.items (job_out old unit))

-- The last question is what it was, and none is due at once for this unit, if it is one.
abbrev pub IsUnpressed : Desk → Option ℕ → Desk → Type 0
IsUnpressed old unit new =
    IsQuestionSame old new × (new.pressing.items ≡ without_asked old.pressing.items unit)

-- what the desk keeps of a question, where the member was asked to ask
abbrev pub KeepsQuestion : State → Input → Instant → Desk → Desk → Type 0
KeepsQuestion s (inputs.Claim path host above) now old new =
    IsUnpressed old (number_found s.division path) new
KeepsQuestion s (inputs.Built path given) now old new = IsAllSame old new
KeepsQuestion s (inputs.Failed path) now old new = IsPressed old (number_found s.division path) new
KeepsQuestion s inputs.Nudge now old new = IsAllSame old new
KeepsQuestion s (inputs.Ask path) now old new = IsQuestionKept s path now old new
KeepsQuestion s (inputs.Message m) now old new = IsAllSame old new

-- what the desk keeps of a question, after what the node did
abbrev pub KeepsQuestionOf : State → Act → Instant → Desk → Desk → Type 0
KeepsQuestionOf s (Own input) now old new = KeepsQuestion s input now old new
KeepsQuestionOf s (Datagram bytes) now old new = IsAllSame old new

-- the unit that the member was asked to claim
abbrev pub unit_claimed : State → Input → Option ℕ
unit_claimed s (inputs.Claim path host above) = number_found s.division path
unit_claimed s _ = None

-- the unit that the node claimed
abbrev pub claimed_by : State → Act → Option ℕ
claimed_by s (Own input) = unit_claimed s input
claimed_by s (Datagram bytes) = None

-- What was returned is so still, except for this unit, if it is one.
abbrev pub IsReturnedBut : Desk → Option ℕ → Desk → Type 0
IsReturnedBut old None new = new.returned ≡ old.returned
IsReturnedBut old (Some u) new =
    (v : ℕ) → contains nat_eq new.returned v
    ≡ (if nat_eq u v then false else contains nat_eq old.returned v)

-- What the desk keeps of what others said, where the node took a datagram; else that stays.
abbrev pub KeepsHeard : State → Act → Instant → Desk → Desk → Type 0
KeepsHeard s (Own input) now old new =
    (new.named ≡ old.named) × (new.given_back ≡ old.given_back)
    × (new.failed_elsewhere ≡ old.failed_elsewhere)
KeepsHeard s (Datagram bytes) now old new = Hears s now bytes.items old new

-- ---- marks that are gone

-- What is known of builds of this unit that failed, here and elsewhere, stays.
abbrev pub IsLeft : Desk → Desk → ℕ → Type 0
IsLeft old new u =
    (get nat_eq new.failed u ≡ get nat_eq old.failed u)
    × (get nat_eq new.failed_elsewhere u ≡ get nat_eq old.failed_elsewhere u)

-- It is forgotten: the mark was written, and is gone.
abbrev pub IsForgotten : Desk → Desk → ℕ → Type 0
IsForgotten old new u =
    (contains nat_eq old.unwritten u ≡ false) × (get nat_eq new.failed u ≡ None)
    × (get nat_eq new.failed_elsewhere u ≡ None)

-- What is known of each unit stays or is forgotten.
abbrev pub AreLeft : Desk → Desk → Type 0
AreLeft old new = (u : ℕ) → IsLeft old new u ⊎ IsForgotten old new u
