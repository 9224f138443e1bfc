-- The turns of a run.
use Rattle.std.specs.Prelude.{◌≡◌, ◌++◌, ℕ, List, [], ◌∷◌, Option, None, Some, Result, Ok, Err, IfErr, IfNone, IfOk, IfSome, length}
use Rattle.turn_rules.specs.declared.fault.TurnFault.{TurnFault}
use Rattle.turn_rules.specs.declared.fault.TurnFault.TheVariants as refused
use Rattle.protocol.specs.Events.{Event, StopIn, event_view, node_of}
use Rattle.protocol.specs.declared.event.Event as declared
use Rattle.protocol.specs.declared.event.Left.TheVariants as left
use Rattle.protocol.specs.Given.{Given}
use Rattle.cluster_turns.specs.Calls.{HasCalled}
use Rattle.cluster_turns.specs.Faults.{IsLeftBy, IsTurnFault}
use Rattle.cluster_turns.specs.State.{ClusterState, taken}
use Rattle.cluster_turns.specs.Turn.{HasHappened, IsSame, KeepsWith, OthersStay}
use Rattle.datagram_ports.specs.declared.port.Port.{Ghosts as Port}

-- what a turn returns
abbrev pub Answer : Type 0
Answer = Result (Option declared.Event) TurnFault

-- A turn of the cluster with this answer. By its port's calls, what it did was the choice. What was
-- chosen happened, or everything is unchanged, or there is a refusal, with the state that it
-- leaves.
pub record IsTurn {D P : Type 0} (port : Port P) (old new : ClusterState D P) (builds : Given)
    (answer : Answer) : Type 0 where
  pub calls : HasCalled port old new builds answer
  pub happened : IfOk answer (λ o. IfSome o (λ e. HasHappened old new (event_view e)))
  pub kept : IfOk answer (λ o. IfSome o (λ e. taken new ≡ taken old ++ event_view e ∷ []))
  pub others : IfOk answer (λ o. IfSome o (λ e. OthersStay old new (node_of (event_view e))))
  pub pending : IfOk answer (λ o. IfSome o (λ e. KeepsWith old new (event_view e)))
  pub same : IfOk answer (λ o. IfNone o (IsSame old new))
  pub refused : IfErr answer (IsTurnFault port old new builds)
  pub left : IfErr answer (IsLeftBy old new)
  pub division : new.division ≡ old.division
  pub weights : new.weights ≡ old.weights

-- Turns with these answers lead from one state of the cluster to the other. Each begins in the
-- state that the one before left.
abbrev pub TurnsLead : {D P : Type 0} → Port P → Given → ClusterState D P → List Answer
    → ClusterState D P → Type 0
TurnsLead port builds old [] new = new ≡ old
TurnsLead port builds old (answer ∷ answers) new =
    (between : _) × IsTurn port old between builds answer
    × TurnsLead port builds between answers new

-- Exactly this number of turns led from one state to the other.
pub record HasRun {D P : Type 0} (port : Port P) (builds : Given) (old new : ClusterState D P)
    (turns : ℕ) : Type 0 where
  pub answers : List Answer
  pub count : length answers ≡ turns
  pub led : TurnsLead port builds old answers new

-- ---- what is known of a run after the cluster is gone

-- the events that a turn with this answer adds: the one that it returned, or a stop during a step
-- of the node that went down
abbrev pub GoesOnIn : Answer → List Event → Type 0
GoesOnIn (Ok None) events = events ≡ []
GoesOnIn (Ok (Some e)) events = events ≡ event_view e ∷ []
GoesOnIn (Err refused.Memory) events = events ≡ []
GoesOnIn (Err (refused.Node f)) events = events ≡ []
GoesOnIn (Err (refused.Down k)) events =
    (e : Event) × (node_of e ≡ k) × (events ≡ StopIn e left.None ∷ [])
GoesOnIn (Err refused.NotSent) events = events ≡ []
GoesOnIn (Err refused.NotFresh) events = ⊥

-- These are the events of turns with these answers, in order.
abbrev pub AreEventsOf : List Answer → List Event → Type 0
AreEventsOf [] events = events ≡ []
AreEventsOf (answer ∷ answers) events =
    (first : List Event) × (later : List Event) × GoesOnIn answer first
    × AreEventsOf answers later × (events ≡ first ++ later)

-- These are the events of exactly this number of turns.
abbrev pub AreEventsOfTurns : ℕ → List Event → Type 0
AreEventsOfTurns turns events =
    (answers : List Answer) × (length answers ≡ turns) × AreEventsOf answers events

-- The cluster's events after this number of turns.
abbrev pub HasRunTo : {D P : Type 0} → Port P → Given → ClusterState D P → ℕ → List declared.Event
    → Type 0
HasRunTo {D} {P} port builds old turns events =
    (last : ClusterState D P) × HasRun port builds old last turns × (events ≡ last.events)
