-- What the functions have done that make a node's step ready and write its note.
use Rattle.std.specs.Prelude.{◌≡◌, ◌+◌, ◌++◌, ℕ, All, AllPairs, false, List, [], ◌∷◌, Option, None, Some, Result, Ok, Err, IfOk, Bool, true, length}
use Rattle.std.specs.Option.{ForSome}
use Rattle.engine.specs.declared.Letter.{Letter}
use Rattle.faults.specs.Answers.{IsRightUnless, map_ok}
use Rattle.faults.specs.Bytes.{Text}
use Rattle.member.specs.Prepared.{MayBeTaken, Prepared, answer_by}
use Rattle.protocol.specs.Answers.{after as member_after}
use Rattle.protocol.specs.State.{State}
use Rattle.protocol.specs.Step.{IsLetterOf, answer, unit_claimed}
use Rattle.protocol.specs.declared.input.Input.{Input}
use Rattle.protocol.specs.declared.refusal.Refusal.{Refusal}
use Rattle.protocol.specs.declared.refusal.Refusal.TheVariants as refusals
use Rattle.stable_record.specs.Crash.{AllAlong}
use Rattle.stable_record.specs.History.{History}
use Rattle.stable_record.specs.Log.{HasBeforeOrAfter}
use Rattle.stable_record.specs.OpenLog.{WouldPassLimit}
use Rattle.stable_record.specs.declared.identity.Identity.{Identity}
use Rattle.stable_record.specs.declared.log.Log.{Log}
use Rattle.stable_record.specs.declared.log_fault.LogFault.{LogFault}
use Rattle.stable_record.specs.declared.log_fault.LogFault.TheVariants as log
use Rattle.wire.specs.Joining.{is_numbered}
use Rattle.wire.specs.Pieces.{IsPiece}
use Rattle.wire.specs.declared.WireFault.{WireFault}
use Rattle.wire.specs.declared.WireFault.TheVariants as wire
use Rattle.wire.specs.declared.datagram.Header.{Header}
use Rattle.wire.specs.declared.datagram.Piece.{Piece}
use Rattle.node.specs.Arrival.{AreLetThrough, Arrival}
use Rattle.node.specs.Kept.{without}
use Rattle.node.specs.State.{IsNode, NodeState}
use Rattle.node.specs.Step.{ReadyStep, Taken, after, answer_then, pieces_left, step_on, taken_by}
use Rattle.node.specs.declared.fault.Foreign.TheVariants as foreign
use Rattle.node.specs.declared.fault.NodeFault.{NodeFault}
use Rattle.node.specs.declared.fault.NodeFault.TheVariants as fault
use Rattle.node.specs.declared.prepared_step.Change.{Change}

-- These are pieces, none occurs twice, and the member accepts their headers.
pub record AreKept (s : State) (pieces : List Piece) : Type 0 where
  pub each : All IsPiece pieces
  pub once : AllPairs (λ p q. is_numbered q.header q.number p ≡ false) pieces
  pub let_through : AreLetThrough s pieces

-- the node's refusal of an input that its member refuses
abbrev pub refused_by : Refusal → NodeFault
refused_by refusals.Memory = fault.Memory
refused_by refusals.Unlisted = fault.Refused refusals.Unlisted
refused_by refusals.Ignored = fault.Refused refusals.Ignored
refused_by refusals.Waiting = fault.Refused refusals.Waiting
refused_by refusals.Held = fault.Refused refusals.Held
refused_by refusals.NoClaim = fault.Refused refusals.NoClaim
refused_by refusals.RoundsSpent = fault.Refused refusals.RoundsSpent
refused_by (refusals.BadFiles f) = fault.Refused (refusals.BadFiles f)
refused_by refusals.OtherTree = fault.Refused refusals.OtherTree
refused_by refusals.NotAMember = fault.Refused refusals.NotAMember
refused_by refusals.OtherPackages = fault.Refused refusals.OtherPackages

-- the node's refusal of a message that its member refuses
abbrev pub foreign_by : Refusal → NodeFault
foreign_by refusals.Memory = fault.Memory
foreign_by refusals.Unlisted = fault.Foreign (foreign.Message refusals.Unlisted)
foreign_by refusals.Ignored = fault.Foreign (foreign.Message refusals.Ignored)
foreign_by refusals.Waiting = fault.Foreign (foreign.Message refusals.Waiting)
foreign_by refusals.Held = fault.Foreign (foreign.Message refusals.Held)
foreign_by refusals.NoClaim = fault.Foreign (foreign.Message refusals.NoClaim)
foreign_by refusals.RoundsSpent = fault.Foreign (foreign.Message refusals.RoundsSpent)
foreign_by (refusals.BadFiles f) = fault.Foreign (foreign.Message (refusals.BadFiles f))
foreign_by refusals.OtherTree = fault.Foreign (foreign.Message refusals.OtherTree)
foreign_by refusals.NotAMember = fault.Foreign (foreign.Message refusals.NotAMember)
foreign_by refusals.OtherPackages = fault.Foreign (foreign.Message refusals.OtherPackages)

-- the node's refusal of bytes, or of pieces, that mean nothing
abbrev pub strange_by : WireFault → NodeFault
strange_by wire.Memory = fault.Memory
strange_by wire.TooLong = fault.Foreign (foreign.Bytes wire.TooLong)
strange_by wire.Truncated = fault.Foreign (foreign.Bytes wire.Truncated)
strange_by wire.Magic = fault.Foreign (foreign.Bytes wire.Magic)
strange_by wire.Kind = fault.Foreign (foreign.Bytes wire.Kind)
strange_by wire.BadField = fault.Foreign (foreign.Bytes wire.BadField)
strange_by wire.Trailing = fault.Foreign (foreign.Bytes wire.Trailing)

-- the node after the pieces with the header didn't join to a message
abbrev pub dropped_by : NodeState → Header → WireFault → NodeState
dropped_by n h wire.Memory = n
dropped_by n h wire.TooLong = record n { pieces = without h n.pieces }
dropped_by n h wire.Truncated = record n { pieces = without h n.pieces }
dropped_by n h wire.Magic = record n { pieces = without h n.pieces }
dropped_by n h wire.Kind = record n { pieces = without h n.pieces }
dropped_by n h wire.BadField = record n { pieces = without h n.pieces }
dropped_by n h wire.Trailing = record n { pieces = without h n.pieces }

-- A ready step may be taken, and the result is again a valid node.
pub record IsSafe (n : NodeState) (r : ReadyStep) : Type 0 where
  pub may : ForSome r.step (MayBeTaken n.member)
  pub leaves : IsNode (after n (taken_by n r))

-- The result is the member's step on the input, ready, with this change of the pieces, or the
-- member's refusal, or `Memory`.
pub record IsPrepared (n : NodeState) (input : Input) (change : Change)
    (result : Result ReadyStep Refusal) : Type 0 where
  pub letter : Letter
  pub shown : IsLetterOf n.member (unit_claimed n.member input) letter
  pub given : IsRightUnless refusals.Memory
      (map_ok (λ r. answer_then n.member r.step) result) (answer n.member letter input)
  pub changes : IfOk result (λ r. r.change ≡ change)
  pub safe : IfOk result (IsSafe n)

-- The result is the right step, ready, or the right refusal, or `Memory`.
pub record MakesReady (n : NodeState) (right : Result Taken NodeFault)
    (result : Result ReadyStep NodeFault) : Type 0 where
  pub given : IsRightUnless fault.Memory (map_ok (taken_by n) result) right
  pub safe : IfOk result (IsSafe n)

-- the node after it handled received bytes with this meaning, and returned this
abbrev pub left_at : NodeState → Arrival → Result ReadyStep NodeFault → NodeState
left_at n a (Ok r) = n
left_at n a (Err fault.Memory) = n
left_at n a (Err (fault.Refused r)) = n
left_at n a (Err (fault.Log f)) = n
left_at n a (Err fault.Stopped) = n
left_at n a (Err (fault.Foreign f)) = record n { pieces = pieces_left n.pieces a }

-- The step on received bytes with this meaning is ready or refused. The node is unchanged, except
-- that pieces which don't join to a message are dropped.
pub record ComesAs (old new : NodeState) (a : Arrival) (result : Result ReadyStep NodeFault)
    : Type 0 where
  pub ready : MakesReady old (step_on old.member a) result
  pub state : new ≡ left_at old a result

-- the member after its part of a step is taken, if it has one
abbrev pub committed : State → Option Prepared → State
committed s None = s
committed s (Some p) = member_after s (answer_by s p)

-- ---- the note

-- Only a fault of the device stops a node.
abbrev pub is_device : LogFault → Bool
is_device log.Memory = false
is_device log.Device = true
is_device log.Full = false
is_device log.MustReopen = false
is_device log.NotALog = false
is_device log.OtherCluster = false

-- the texts with this one added, if there is one
abbrev pub with_text : List Text → Option Text → List Text
with_text texts None = texts
with_text texts (Some text) = texts ++ text ∷ []

-- the number of bytes that this text takes on a log, if there is one
abbrev pub entry_len : Option Text → ℕ
entry_len None = 0
entry_len (Some text) = 5 + length text

-- At each moment a crash leaves these notes, either with or without this one. Without a note the
-- disk isn't called.
abbrev pub GoesOnWith : Identity → List Text → Option Text → History → History → Type 0
GoesOnWith i texts None old new = new ≡ old
GoesOnWith i texts (Some text) old new = AllAlong (HasBeforeOrAfter i texts text) old new

-- With this note the file would exceed its maximum length.
abbrev pub LacksRoomFor : {D : Type 0} → Log D → Option Text → Type 0
LacksRoomFor l None = ⊥
LacksRoomFor l (Some text) = WouldPassLimit l text

-- There is such a note, and the file has room for it.
abbrev pub HasRoomForText : {D : Type 0} → Log D → Option Text → Type 0
HasRoomForText l None = ⊥
HasRoomForText l (Some text) = ¬ (WouldPassLimit l text)

-- Why such a note is not written.
abbrev pub IsNoteCause : {D : Type 0} → Log D → Option Text → NodeFault → Type 0
IsNoteCause l text fault.Memory = Prim.Unit {0}
IsNoteCause l text (fault.Refused r) = ⊥
IsNoteCause l text (fault.Log log.Full) = LacksRoomFor l text
IsNoteCause l text (fault.Log log.Device) = HasRoomForText l text
IsNoteCause l text (fault.Log log.Memory) = ⊥
IsNoteCause l text (fault.Log log.MustReopen) = ⊥
IsNoteCause l text (fault.Log log.NotALog) = ⊥
IsNoteCause l text (fault.Log log.OtherCluster) = ⊥
IsNoteCause l text fault.Stopped = ⊥
IsNoteCause l text (fault.Foreign f) = ⊥
