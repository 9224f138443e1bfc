-- The choice of a turn, with its step prepared.
use Rattle.std.specs.Prelude.{◌≡◌, ℕ, Bool, true, false, List, Option, None, Some, Result, Err, [], ◌∷◌, if◌then◌else◌, is_some, length, map, slice_get}
use Rattle.turn_rules.specs.Choice.{Chosen, Here}
use Rattle.turn_rules.specs.Pending.{Pending}
use Rattle.turn_rules.specs.declared.fault.TurnFault.{TurnFault}
use Rattle.turn_rules.specs.declared.fault.TurnFault.TheVariants as refused
use Rattle.faults.specs.Bytes.{Text, is_among}
use Rattle.node.specs.State.{LoggedNode}
use Rattle.node.specs.Step.{Asked, Comes, Does, Takes}
use Rattle.node.specs.declared.fault.NodeFault.{NodeFault}
use Rattle.node.specs.declared.fault.NodeFault.TheVariants as fault
use Rattle.turn_rules.specs.Calls.{came_by}
use Rattle.turn_rules.specs.CausedSteps.{IsCausedStep}
use Rattle.turn_rules.specs.declared.caused_step.CausedStep.{CausedStep}
use Rattle.datagram_ports.specs.Calls.{Received, WentThrough}
use Rattle.datagram_ports.specs.Kept.{Arrived, GoesOnBy}
use Rattle.datagram_ports.specs.declared.fault.PortFault.{PortFault}
use Rattle.protocol.specs.declared.input.Input.{Input}
use Rattle.cluster_turns.specs.Choice.{IsChoiceWith, has_job}
use Rattle.protocol.specs.Given.{Given}
use Rattle.cluster_turns.specs.Here.{here_in}
use Rattle.cluster_turns.specs.Events.{event_of}
use Rattle.cluster_turns.specs.declared.chosen.Chosen.{Chosen as PreparedStep}
use Rattle.datagram_ports.specs.declared.port.Port.{Ghosts as Port}

-- What receives returned in the turn. The port is asked once, unless a job waited for its answer.
abbrev pub looked_for : Bool → Arrived → List Arrived
looked_for has_job came = if has_job then [] else came ∷ []

-- Node k is up, and its step on this is prepared.
pub record IsReadiedAt {D : Type 0} (nodes : List (LoggedNode D)) (k : ℕ) (asked : Asked)
    (r : CausedStep) : Type 0 where
  pub node : LoggedNode D
  pub stands : slice_get nodes k ≡ Some node
  pub up : node.node.stopped ≡ false
  pub readied : IsCausedStep node asked r

-- Node k's part was prepared if it has one, and otherwise nothing was.
abbrev pub IsPartAt : {D : Type 0} → List (LoggedNode D) → ℕ → Option Input → Option CausedStep
    → Type 0
IsPartAt nodes k None None = Prim.Unit {0}
IsPartAt nodes k None (Some r) = ⊥
IsPartAt nodes k (Some input) None = ⊥
IsPartAt nodes k (Some input) (Some r) = IsReadiedAt nodes k (Does input) r

-- What was chosen was prepared, or nothing was if nothing was chosen.
abbrev pub IsChosenAs : {D : Type 0} → List (LoggedNode D) → Chosen → Option PreparedStep → Type 0
IsChosenAs nodes None None = Prim.Unit {0}
IsChosenAs nodes None (Some r) = ⊥
IsChosenAs nodes (Some x) None = ⊥
IsChosenAs nodes (Some x) (Some r) = (r.node ≡ x.0) × IsReadiedAt nodes x.0 x.1 r.readied

-- Node k is up, and refuses this.
pub record RefusesAt {D : Type 0} (nodes : List (LoggedNode D)) (k : ℕ) (asked : Asked)
    (f : NodeFault) : Type 0 where
  pub node : LoggedNode D
  pub stands : slice_get nodes k ≡ Some node
  pub up : node.node.stopped ≡ false
  pub refuses : Takes node.node asked (Err f)

-- No node that is up refuses bytes that were sent.
abbrev pub NoneIsForeign : {D : Type 0} → List (LoggedNode D) → List Text → Type 0
NoneIsForeign nodes sent =
    (k : ℕ) (text : Text) (f : NodeFault) → is_among sent text ≡ true
    → RefusesAt nodes k (Comes text) f → ⊥

-- the node's refusal as that of a turn
abbrev pub told : NodeFault → TurnFault
told fault.Memory = refused.Memory
told (fault.Refused r) = refused.Node (fault.Refused r)
told (fault.Log f) = refused.Node (fault.Log f)
told fault.Stopped = refused.Node fault.Stopped
told (fault.Foreign f) = refused.Node (fault.Foreign f)

-- It is the turn's choice, given what the port returned between the old record of receives and the
-- new one.
pub record IsChosenBy (here : Here) (count : ℕ) (p : Pending) (builds : Given)
    (old new : Option (List Arrived)) (chosen : Chosen) : Type 0 where
  pub came : Arrived
  pub looked : GoesOnBy (looked_for (has_job here count builds) came) old new
  pub choice : IsChoiceWith here count p builds came chosen

-- The turn's choice was prepared, and it is an event.
pub record HasChosen {D : Type 0} (nodes : List (LoggedNode D)) (sent : List Text) (p : Pending)
    (builds : Given) (old new : Option (List Arrived)) (r : Option PreparedStep) : Type 0 where
  pub chosen : Chosen
  pub is_chosen : IsChosenBy (here_in nodes) (length nodes) p builds old new chosen
  pub readied : IsChosenAs nodes chosen r
  pub event : (x : _) → chosen ≡ Some x → is_some (event_of sent x) ≡ true

-- the chosen node refuses what it would do on its own initiative
abbrev pub IsRefusedOwn : {D : Type 0} → List (LoggedNode D) → List Text → Pending → Given
    → Option (List Arrived) → Option (List Arrived) → NodeFault → Type 0
IsRefusedOwn nodes sent p builds old new f =
    (k : ℕ) × (input : Input)
    × IsChosenBy (here_in nodes) (length nodes) p builds old new (Some (k, Does input))
    × (is_some (event_of sent (k, Does input)) ≡ true) × RefusesAt nodes k (Does input) f

-- bytes were received for a node that is up, and no node sent them
abbrev pub HasForeign : {D : Type 0} → List (LoggedNode D) → List Text → Pending → Given
    → Option (List Arrived) → Option (List Arrived) → Type 0
HasForeign nodes sent p builds old new =
    (k : ℕ) × (text : Text)
    × IsChosenBy (here_in nodes) (length nodes) p builds old new (Some (k, Comes text))
    × (is_among sent text ≡ false)

-- Why nothing was prepared: memory ran out and there is something to do, the chosen node refuses
-- what it would do on its own initiative, or bytes were received that no node sent.
abbrev pub IsChoosingFault : {D : Type 0} → List (LoggedNode D) → List Text → Pending → Given
    → Option (List Arrived) → Option (List Arrived) → TurnFault → Type 0
IsChoosingFault nodes sent p builds old new refused.Memory =
    (chosen : ℕ × Asked)
    × IsChosenBy (here_in nodes) (length nodes) p builds old new (Some chosen)
IsChoosingFault nodes sent p builds old new (refused.Node f) =
    IsRefusedOwn nodes sent p builds old new f
IsChoosingFault nodes sent p builds old new (refused.Down k) = ⊥
IsChoosingFault nodes sent p builds old new refused.NotSent =
    HasForeign nodes sent p builds old new
IsChoosingFault nodes sent p builds old new refused.NotFresh = ⊥

-- The port answered these receives, and no other calls. `IsSo` holds of what they returned, with an
-- empty record before them.
pub record ByReceives {P : Type 0} (port : Port P) (old new : P)
    (IsSo : Option (List Arrived) → Option (List Arrived) → Type 0) : Type 0 where
  pub received : List (Result Arrived PortFault)
  pub went : WentThrough port.does old (map Received received) new
  pub so : IsSo (Some []) (Some (map came_by received))
