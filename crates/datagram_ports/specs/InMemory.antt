-- A port in memory, and its settings.
use Rattle.std.specs.Prelude.{◌≡◌, ◌==◌, ◌++◌, ℕ, Bool, true, false, List, [], ◌∷◌, drop, Option, None, Some, Result, Ok, Err, if◌then◌else◌}
use Rattle.faults.specs.Bytes.{Text}
use Rattle.datagram_ports.specs.Calls.{Call, Received, Sent, WentThrough}
use Rattle.datagram_ports.specs.Kept.{Arrived, GoesOnBy, Parcel, one_more}
use Rattle.datagram_ports.specs.declared.fault.PortFault.{PortFault}
use Rattle.datagram_ports.specs.declared.fault.PortFault.TheVariants.{Memory, Failed}

-- the settings of a port in memory
pub record Orders : Type 0 where
  -- each send to this member fails
  pub lost_to : Option ℕ
  -- each datagram is received twice, one right after the other
  pub is_twice : Bool
  -- each receive fails
  pub is_deaf : Bool

-- the state of a port in memory
pub record MemPortState : Type 0 where
  pub orders : Orders
  -- the queue of datagrams that weren't received yet
  pub waiting : List (ℕ × Text)
  -- what receives returned, unless memory for recording it ran out
  pub given : Option (List Arrived)
  -- what was offered, unless memory for recording it ran out
  pub offered : Option (List Parcel)
  -- the bytes that were granted
  pub granted : List Text
  pub failures : ℕ

-- whether it is this number
abbrev pub is_one : Option ℕ → ℕ → Bool
is_one None k = false
is_one (Some j) k = j == k

-- what a send appends to the queue
abbrev pub put_by : Bool → ℕ → Text → List (ℕ × Text)
put_by is_twice to text = if is_twice then (to, text) ∷ (to, text) ∷ [] else (to, text) ∷ []

-- the first, if there is one
abbrev pub first_of : {X : Type 0} → List X → Option X
first_of [] = None
first_of (x ∷ xs) = Some x

-- the record, unless memory for it ran out
abbrev pub kept_if : {X : Type 0} → Bool → List X → Option (List X)
kept_if whole xs = if whole then Some xs else None

-- why a send is refused: because sends to the member are set to fail, or because memory ran out
abbrev pub lost_by : Bool → PortFault
lost_by is_lost = if is_lost then Failed else Memory

-- This is appended to the record of what receives returned. The settings and the record of offers
-- are unchanged.
pub record Gives (old new : MemPortState) (arrived : Arrived) : Type 0 where
  pub given : GoesOnBy (arrived ∷ []) old.given new.given
  pub offered : new.offered ≡ old.offered
  pub orders : new.orders ≡ old.orders

-- If receives are set to fail, nothing is received and the failure is counted. Otherwise the first
-- datagram in the queue, if any, is received.
abbrev pub GivesInMemory : MemPortState → Result Arrived PortFault → MemPortState → Type 0
GivesInMemory old (Ok arrived) new = Gives old new arrived × (old.orders.is_deaf ≡ false)
    × (arrived ≡ first_of old.waiting) × (new.waiting ≡ drop 1 old.waiting)
    × (new.failures ≡ old.failures)
GivesInMemory old (Err f) new = Gives old new None × (old.orders.is_deaf ≡ true)
    × (f ≡ Failed) × (new.waiting ≡ old.waiting) × (new.failures ≡ one_more old.failures)

-- This is appended to the record of offers. The settings and the record of receives are unchanged.
pub record IsOffered (old new : MemPortState) (parcel : Parcel) : Type 0 where
  pub offered : GoesOnBy (parcel ∷ []) old.offered new.offered
  pub given : new.given ≡ old.given
  pub orders : new.orders ≡ old.orders

-- the count of failures after a refused send
abbrev pub lost_count : Bool → ℕ → ℕ
lost_count is_lost count = if is_lost then one_more count else count

-- If sends to the member are set to fail, the datagram is lost and the failure is counted.
-- Otherwise it is appended to the queue, once or twice, or lost because memory ran out.
abbrev pub TakesInMemory : MemPortState → Parcel → Result (Unit {0}) PortFault → MemPortState
    → Type 0
TakesInMemory old parcel (Ok u) new = IsOffered old new parcel
    × (is_one old.orders.lost_to parcel.to ≡ false)
    × (new.waiting ≡ old.waiting ++ put_by old.orders.is_twice parcel.to parcel.text)
    × (new.failures ≡ old.failures)
TakesInMemory old parcel (Err f) new = IsOffered old new parcel
    × (f ≡ lost_by (is_one old.orders.lost_to parcel.to)) × (new.waiting ≡ old.waiting)
    × (new.failures ≡ lost_count (is_one old.orders.lost_to parcel.to) old.failures)

-- what a call does to a port in memory
abbrev pub DoesInMemory : MemPortState → Call → MemPortState → Type 0
DoesInMemory old (Received answer) new = GivesInMemory old answer new
DoesInMemory old (Sent parcel answer) new = TakesInMemory old parcel answer new

-- The queue after these calls: a receive removes the first datagram, an accepted send appends to
-- the queue, and a refused call changes nothing.
abbrev pub waiting_after : Orders → List Call → List (ℕ × Text) → List (ℕ × Text)
waiting_after orders [] waiting = waiting
waiting_after orders (Received (Ok arrived) ∷ calls) waiting =
    waiting_after orders calls (drop 1 waiting)
waiting_after orders (Received (Err f) ∷ calls) waiting = waiting_after orders calls waiting
waiting_after orders (Sent parcel (Ok u) ∷ calls) waiting =
    waiting_after orders calls (waiting ++ put_by orders.is_twice parcel.to parcel.text)
waiting_after orders (Sent parcel (Err f) ∷ calls) waiting = waiting_after orders calls waiting

-- The settings are unchanged, and the queue is what these calls leave.
pub record IsLeftWaiting (old new : MemPortState) (calls : List Call) : Type 0 where
  pub orders : new.orders ≡ old.orders
  pub waiting : new.waiting ≡ waiting_after old.orders calls old.waiting

-- Law: the calls that a port in memory went through determine its queue.
abbrev pub CallsLeaveWaiting : Type 0
CallsLeaveWaiting = (old new : MemPortState) (calls : List Call)
    → WentThrough DoesInMemory old calls new → IsLeftWaiting old new calls
