-- A node's part in a turn, with its step prepared.
use Rattle.std.specs.Prelude.{◌≡◌, ◌⊎◌, Option, None, Some, Ok, Err}
use Rattle.turn_rules.specs.Acts.{asked_by}
use Rattle.node.specs.State.{LoggedNode}
use Rattle.node.specs.Step.{Asked, Does, IsReadyFor, Takes, taken_by}
use Rattle.node.specs.declared.fault.NodeFault.{NodeFault}
use Rattle.node.specs.declared.fault.NodeFault.TheVariants.{Memory}
use Rattle.protocol.specs.declared.input.Input.{Input}
use Rattle.turn_rules.specs.declared.caused_step.CausedStep.{CausedStep}

-- The step for what the node is asked is prepared.
pub record IsCausedStep {D : Type 0} (n : LoggedNode D) (asked : Asked) (r : CausedStep)
    : Type 0 where
  pub asks : asked_by r.act ≡ asked
  pub takes : Takes n.node asked (Ok (taken_by n.node r.ready))
  pub may : IsReadyFor n.node r.ready

-- The node's part was prepared if it has one, and otherwise nothing was.
abbrev pub IsPart : {D : Type 0} → LoggedNode D → Option Input → Option CausedStep → Type 0
IsPart n None None = Prim.Unit {0}
IsPart n None (Some r) = ⊥
IsPart n (Some input) None = ⊥
IsPart n (Some input) (Some r) = IsCausedStep n (Does input) r

-- The node has a part, and memory ran out or it refuses that.
abbrev pub IsNoPart : {D : Type 0} → LoggedNode D → Option Input → NodeFault → Type 0
IsNoPart n own f =
    (input : Input) × (own ≡ Some input) × ((f ≡ Memory) ⊎ Takes n.node (Does input) (Err f))
