-- What a port records of its calls, if it does.
use Rattle.std.specs.Prelude.{◌≡◌, ◌++◌, ⊤, ℕ, ◌+◌, nat_lt, List, Option, None, Some, Result, Ok, Err, Vec, if◌then◌else◌}
use Rattle.std.specs.declared.alloc.Global.{Global}
use Rattle.faults.specs.Bytes.{Text}
use Rattle.datagram_ports.specs.declared.fault.PortFault.{PortFault}
use Rattle.datagram_ports.specs.declared.fault.PortFault.TheVariants.{Memory, NoSocket, Failed}

-- what a receive returns: a datagram, with the node that it is for, or nothing
abbrev pub Arrived : Type 0
Arrived = Option (ℕ × Text)

-- a datagram that is offered to a send, from one node to another
pub record Parcel : Type 0 where
  pub from : ℕ
  pub to : ℕ
  pub text : Text

-- These are appended to the record, as long as there is one. A record that was given up is never
-- known again.
abbrev pub GoesOnBy : {X : Type 0} → List X → Option (List X) → Option (List X) → Type 0
GoesOnBy more old None = ⊤
GoesOnBy more None (Some ys) = ⊥
GoesOnBy more (Some xs) (Some ys) = ys ≡ xs ++ more

-- what a receive returned; one that failed returned nothing
abbrev pub arrived : Result (Option (ℕ × Vec ℕ Global)) PortFault → Arrived
arrived (Ok None) = None
arrived (Ok (Some d)) = Some (d.0, d.1.items)
arrived (Err f) = None

-- one more failure; the count saturates
abbrev pub one_more : ℕ → ℕ
one_more count = if nat_lt count 18446744073709551615 then count + 1 else count

-- the count after a call: only `Failed` is counted
abbrev pub counted : {T : Type 0} → Result T PortFault → ℕ → ℕ
counted (Ok x) count = count
counted (Err Memory) count = count
counted (Err NoSocket) count = count
counted (Err Failed) count = one_more count

-- The port still vouches for whatever it vouched for.
abbrev pub KeepsVouching : {P : Type 0} → (P → Text → Type 0) → P → P → Type 0
KeepsVouching vouches old new = (text : Text) → vouches old text → vouches new text
