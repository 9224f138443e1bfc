-- The answer of a receive, and what it returned.
use Rattle.std.proofs.Common.{◌≡◌, ℕ, [], ◌∷◌, Option, None, Some, Result, Ok, Vec, ap, refl, sym}
use Rattle.std.specs.declared.alloc.Global.{Global}
use Rattle.cluster_turns.specs.inside.Cases.{arrived}
use Rattle.turn_rules.specs.Calls.{came_by}
use Rattle.datagram_ports.specs.Calls.{told}
use Rattle.datagram_ports.specs.Kept.{Arrived, GoesOnBy}
use Rattle.datagram_ports.specs.declared.fault.PortFault.{PortFault}

-- what it returned is its answer
pub came_told : (o : Option (ℕ × Vec ℕ Global)) → arrived o ≡ came_by (told (Ok o))
came_told None = refl
came_told (Some d) = refl

-- and it is what the calls' receives returned
pub in_calls : (came : Arrived) (answer : Result Arrived PortFault) → came ≡ came_by answer
    → GoesOnBy (came ∷ []) (Some []) (Some (came_by answer ∷ []))
in_calls came answer is = ap (λ (c : Arrived). c ∷ []) (sym is)
