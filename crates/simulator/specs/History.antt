-- A world together with the events that led to it.
use Rattle.std.specs.Prelude.{◌≡◌, ◌⊎◌, ◌+◌, ◌∷◌, ◌++◌, ℕ, List, Option, None, Some, length, map}
use Rattle.listing.specs.Tree.{Tree}
use Rattle.protocol.specs.Events.{Event, event_view}
use Rattle.protocol.specs.declared.event.Event as declared
use Rattle.node.specs.OnLog.{identity, texts_of}
use Rattle.stable_record.specs.Log.{gate_place}
use Rattle.world.specs.Happening.{IsRefused, Leads}
use Rattle.world.specs.Headline.{AtEachMoment}
use Rattle.world.specs.World.{IsMade, World, WorldNode, start}
use Rattle.world.specs.declared.fault.WorldFault.{WorldFault}
use Rattle.world.specs.declared.fault.WorldFault.TheVariants.{Memory}

-- a world, and the events that it took, in order
pub record History : Type 0 where
  pub world : World
  pub events : List declared.Event

-- the events that were taken, in order
abbrev pub taken : History → List Event
taken h = map event_view h.events

-- The events lead from the start to the world, over the units of a tree and with valid weights.
pub record IsHistory (h : History) : Type 0 where
  pub made : IsMade h.world.division h.world.weights
  pub led : Leads (start h.world.division h.world.weights) (taken h) h.world

-- At each moment of the run, after each prefix of the events that were taken, P holds of the world
-- of that moment.
abbrev pub AlongRun : History → (List Event → World → Type 0) → Type 0
AlongRun h P = AtEachMoment h.world.division h.world.weights (taken h) h.world P

-- the length of the log's file in bytes: up to and including the closed gate, and what is after it
abbrev pub file_length : World → ℕ → WorldNode → ℕ
file_length w k x =
    gate_place (identity w.division.tree w.weights k) (texts_of x.notes) + 1 + length x.behind

-- The run stopped at the event of this number, counted from 1: the events before it happened, and
-- it is refused with the fault, or memory ran out.
pub record StoppedAt (tree : Tree) (weights : List ℕ) (events : List Event) (place : ℕ)
    (fault : WorldFault) : Type 0 where
  pub history : History
  pub is_history : IsHistory history
  pub of_tree : history.world.division.tree ≡ tree
  pub weigh : history.world.weights ≡ weights
  pub event : Event
  pub behind : List Event
  pub among : events ≡ taken history ++ event ∷ behind
  pub number : place ≡ length (taken history) + 1
  pub refused : (fault ≡ Memory) ⊎ IsRefused history.world event fault

-- A run's fault has the number of the event at which the run stopped. It has none if memory ran out
-- before.
abbrev pub IsRunFault : Tree → List ℕ → List Event → Option ℕ → WorldFault → Type 0
IsRunFault tree weights events None fault = fault ≡ Memory
IsRunFault tree weights events (Some place) fault = StoppedAt tree weights events place fault
