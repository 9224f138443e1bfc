-- What is prepared in each case of the choice, and why nothing is.
use Rattle.std.specs.Prelude.{◌≡◌, ◌⊎◌, ℕ, Vec, true, false, List, [], ◌∷◌, Option, Some, Result, is_some, length, option_and_then, option_map}
use Rattle.std.specs.declared.alloc.Global.{Global}
use Rattle.turn_rules.specs.Answering.{answer_of}
use Rattle.turn_rules.specs.Choice.{Chosen, comes_to}
use Rattle.turn_rules.specs.Pending.{Pending}
use Rattle.turn_rules.specs.declared.fault.TurnFault.{TurnFault}
use Rattle.turn_rules.specs.declared.fault.TurnFault.TheVariants.{Memory, Node, NotSent}
use Rattle.faults.specs.Bytes.{Text, is_among}
use Rattle.node.specs.State.{LoggedNode}
use Rattle.node.specs.Step.{Comes, Does}
use Rattle.node.specs.declared.fault.NodeFault.{NodeFault}
use Rattle.turn_rules.specs.Calls.{came_by}
use Rattle.turn_rules.specs.declared.caused_step.CausedStep.{CausedStep}
use Rattle.datagram_ports.specs.Calls.{Received, WentThrough}
use Rattle.datagram_ports.specs.Kept.{Arrived}
use Rattle.datagram_ports.specs.declared.fault.PortFault.{PortFault}
use Rattle.protocol.specs.Given.{Given}
use Rattle.protocol.specs.declared.input.Input.{Input}
use Rattle.cluster_turns.specs.Choosing.{IsChosenAs, IsPartAt, RefusesAt}
use Rattle.cluster_turns.specs.Choice.{IsFirstOwn, IsOwnIf}
use Rattle.cluster_turns.specs.Here.{here_in}
use Rattle.cluster_turns.specs.declared.chosen.Chosen.{Chosen as PreparedStep}
use Rattle.datagram_ports.specs.declared.port.Port.{Ghosts as Port}

-- ---- (1) a job

-- node k's answer to its job, if it is up and has one
abbrev pub answer_here : {D : Type 0} → List (LoggedNode D) → Given → ℕ → Option Input
answer_here nodes builds k = option_and_then (λ s. answer_of s builds) (here_in nodes k)

-- Memory ran out, and there is something to do.
abbrev pub IsWantFor : {X : Type 0} → Option X → TurnFault → Type 0
IsWantFor x f = (f ≡ Memory) × (is_some x ≡ true)

-- ---- (2) what was received

-- what was received, with its bytes as a list
abbrev pub arrived : Option (ℕ × Vec ℕ Global) → Arrived
arrived = option_map (λ d. (d.0, d.1.items))

-- The port answered one receive, which returned this, and no other calls.
abbrev pub WasReceived : {P : Type 0} → Port P → P → Arrived → P → Type 0
WasReceived port old came new =
    (answer : Result Arrived PortFault) × (came ≡ came_by answer)
    × WentThrough port.does old (Received answer ∷ []) new

-- What a node takes was sent.
abbrev pub WasSent : {D : Type 0} → List (LoggedNode D) → List Text → Arrived → Type 0
WasSent nodes sent came =
    (k : ℕ) (text : Text) → comes_to (here_in nodes) came ≡ Some (k, Comes text)
    → is_among sent text ≡ true

-- Memory ran out and there is something to take, or it is for a node that is up and was not sent.
abbrev pub IsNotTaken : {D : Type 0} → List (LoggedNode D) → List Text → Arrived → TurnFault
    → Type 0
IsNotTaken nodes sent came f =
    ((f ≡ Memory) × (is_some (comes_to (here_in nodes) came) ≡ true)) ⊎ ((f ≡ NotSent)
    × ((k : ℕ) × (text : Text) × (comes_to (here_in nodes) came ≡ Some (k, Comes text))
    × (is_among sent text ≡ false)))

-- ---- (3) what nodes do on their own initiative

-- What node k does on its own initiative, if anything, was prepared.
abbrev pub IsOwnPart : {D : Type 0} → List (LoggedNode D) → Pending → ℕ → Option CausedStep → Type 0
IsOwnPart nodes p k r =
    (own : Option Input) × IsOwnIf (here_in nodes) (length nodes) p k (here_in nodes k) own
    × IsPartAt nodes k own r

-- Memory ran out and node k would do something on its own initiative, or it refuses that.
abbrev pub IsOwnFault : {D : Type 0} → List (LoggedNode D) → Pending → ℕ → TurnFault → Type 0
IsOwnFault nodes p k f =
    ((f ≡ Memory) × ((input : Input)
    × IsOwnIf (here_in nodes) (length nodes) p k (here_in nodes k) (Some input)))
    ⊎ ((input : Input) × (g : NodeFault) × (f ≡ Node g)
    × IsOwnIf (here_in nodes) (length nodes) p k (here_in nodes k) (Some input)
    × RefusesAt nodes k (Does input) g)

-- What the first of these nodes that does anything does on its own initiative was prepared.
abbrev pub IsFirstPart : {D : Type 0} → List (LoggedNode D) → Pending → List ℕ → Option PreparedStep
    → Type 0
IsFirstPart nodes p ks r =
    (chosen : Chosen) × IsFirstOwn (here_in nodes) (length nodes) p ks chosen
    × IsChosenAs nodes chosen r

-- Memory ran out and one of these nodes would do something on its own initiative, or the first that
-- would refuses that.
abbrev pub IsFirstFault : {D : Type 0} → List (LoggedNode D) → Pending → List ℕ → TurnFault
    → Type 0
IsFirstFault nodes p ks f =
    ((f ≡ Memory) × ((k : ℕ) × (input : Input)
    × IsFirstOwn (here_in nodes) (length nodes) p ks (Some (k, Does input))))
    ⊎ ((k : ℕ) × (input : Input) × (g : NodeFault) × (f ≡ Node g)
    × IsFirstOwn (here_in nodes) (length nodes) p ks (Some (k, Does input))
    × RefusesAt nodes k (Does input) g)
