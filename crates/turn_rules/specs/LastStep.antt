-- The step that a node took last.
use Rattle.std.specs.Prelude.{◌≡◌, ℕ, List, Ok}
use Rattle.faults.specs.Bytes.{Text}
use Rattle.node.specs.OnLog.{IsLogged, IsOnLog}
use Rattle.node.specs.Parcels.{datagrams_to}
use Rattle.node.specs.State.{LoggedNode}
use Rattle.node.specs.Step.{Asked, Taken, Takes, after}
use Rattle.stable_record.specs.History.{History}

-- These are the datagrams of the step that led from a node over its log to this node's state, so
-- its note is one of the node's notes. If the disk keeps to the disk model and the node was on its
-- log before the step, it is on its log now.
pub record IsOfLastStep {D : Type 0} (is_kept : D → Type 0) (history : D → History)
    (n : LoggedNode D) (datagrams : List (ℕ × Text)) : Type 0 where
  pub before : LoggedNode D
  pub logged : IsLogged before
  pub asked : Asked
  pub taken : Taken
  pub takes : Takes before.node asked (Ok taken)
  pub state : n.node ≡ after before.node taken
  pub sends : datagrams ≡ datagrams_to taken.answer.sends
  pub on_log : is_kept n.log.disk → IsOnLog history before → IsOnLog history n
