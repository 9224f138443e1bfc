-- Sequences of calls to a port.
use Rattle.std.specs.Prelude.{◌≡◌, ◌++◌, ℕ, List, [], ◌∷◌, Option, None, Some, Result, Ok, Err, Vec}
use Rattle.std.specs.declared.alloc.Global.{Global}
use Rattle.datagram_ports.specs.Kept.{Arrived, Parcel}
use Rattle.datagram_ports.specs.declared.fault.PortFault.{PortFault}

-- a call, with its answer
pub data Call : Type 0 where
  Received : Result Arrived PortFault → Call  -- returned a datagram or nothing, or failed
  Sent : Parcel → Result (Unit {0}) PortFault → Call  -- offered a datagram, taken or refused

-- the answer of a receive
abbrev pub told : Result (Option (ℕ × Vec ℕ Global)) PortFault → Result Arrived PortFault
told (Ok None) = Ok None
told (Ok (Some d)) = Ok (Some (d.0, d.1.items))
told (Err f) = Err f

-- These calls lead, in order, from one state of the port to the other. Each call does what the port
-- promises of it.
abbrev pub WentThrough : {P : Type 0} → (P → Call → P → Type 0) → P → List Call → P → Type 0
WentThrough does old [] new = new ≡ old
WentThrough does old (call ∷ calls) new = (between : _) × does old call between
    × WentThrough does between calls new

-- Law: a port that went through these calls and then through more went through both.
abbrev pub CallsGoOn : {P : Type 0} → (P → Call → P → Type 0) → Type 0
CallsGoOn does = (old between new : _) (calls more : List Call)
    → WentThrough does old calls between → WentThrough does between more new
    → WentThrough does old (calls ++ more) new
