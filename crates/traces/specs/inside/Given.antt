-- How the result of a parsing function relates to the specification.
use Rattle.std.specs.Prelude.{◌≡◌, ℕ, Option, None, Some, Result, Ok, Err}
use Rattle.traces.specs.declared.TraceFault.{TraceFault}
use Rattle.traces.specs.declared.TraceFault.TheVariants as fault
use Rattle.traces.specs.declared.read_error.ReadError.{ReadError}
use Rattle.traces.specs.declared.read_error.ReadError.TheVariants.{Memory, Bad}

-- the specification gives no value, or memory ran out
abbrev pub Fails : {Y : Type 0} → ReadError → Option Y → Type 0
Fails Memory read = Prim.Unit {0}
Fails Bad read = read ≡ None

-- The result, mapped by view, is what the specification gives, or memory ran out.
abbrev pub Gives : {X Y : Type 0} → (X → Y) → Result X ReadError → Option Y → Type 0
Gives view (Ok x) read = read ≡ Some (view x)
Gives view (Err e) read = Fails e read

-- the refusal of what is outside the events
abbrev pub outer_fault : ReadError → TraceFault
outer_fault Memory = fault.Memory
outer_fault Bad = fault.BadTrace 0

-- the events are bad at this place, or memory ran out
abbrev pub IsEventsFault : {X : Type 0} → Result X ℕ → TraceFault → Type 0
IsEventsFault events fault.Memory = Prim.Unit {0}
IsEventsFault events (fault.BadTrace place) = events ≡ Err place
