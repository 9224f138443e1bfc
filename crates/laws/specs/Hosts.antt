-- The state of nodes that run on separate hosts, and what one turn of a node does.
use Rattle.std.specs.Prelude.{◌≡◌, ◌⊎◌, ◌≤◌, ℕ, List, [], Ok, Contains, length, map, replicate}
use Rattle.faults.specs.Bytes.{Text}
use Rattle.node.specs.OnLog.{IsFull, texts_of}
use Rattle.node.specs.Parcels.{datagrams_to}
use Rattle.node.specs.State.{NodeState, with_note}
use Rattle.node.specs.Step.{Asked, Comes, Does, Taken, Takes}
use Rattle.protocol.specs.declared.input.Input.TheVariants as inputs

-- ---- state

-- A host: either its node is up, in this state, or no node runs there and its log has notes with
-- these texts.
pub data Host : Type 0 where
  Up : NodeState → Host
  Down : List Text → Host

-- all hosts, indexed by member number, and the datagrams that nodes have offered so far, in order
pub record Hosts : Type 0 where
  pub hosts : List Host
  pub offered : List Text

-- At the start every log is empty, no node runs, and nothing was sent.
abbrev pub at_start : List ℕ → Hosts
at_start weights = record { hosts = replicate (length weights) (Down []); offered = [] }

-- ---- what a turn asks of a node

-- What a turn may ask of a node: to take bytes that arrived, or to handle an input of its own,
-- which is not a message. A host named by a claim is a 16-bit number.
abbrev pub IsOfATurn : Asked → Type 0
IsOfATurn (Comes text) = Prim.Unit {0}
IsOfATurn (Does (inputs.Claim path host above)) = host ≤ 65535
IsOfATurn (Does (inputs.Built path packages)) = Prim.Unit {0}
IsOfATurn (Does (inputs.Failed path)) = Prim.Unit {0}
IsOfATurn (Does inputs.Nudge) = Prim.Unit {0}
IsOfATurn (Does (inputs.Ask path)) = Prim.Unit {0}
IsOfATurn (Does (inputs.Message m)) = ⊥

-- Bytes that arrive were sent by a node in this run, unaltered.
abbrev pub WasOffered : List Text → Asked → Type 0
WasOffered offered (Comes text) = Contains offered text
WasOffered offered (Does input) = Prim.Unit {0}

-- ---- what the node does

-- The node takes this step when a turn asks this of it, and its log has room for the step's note.
pub record TakesStep (offered : List Text) (n : NodeState) (asked : Asked) (t : Taken) : Type 0
  where
    pub asks : IsOfATurn asked
    pub came : WasOffered offered asked
    pub takes : Takes n asked (Ok t)
    pub room : ¬ IsFull n t.answer.note

-- the datagrams that the step sends
abbrev pub sends_of : Taken → List Text
sends_of t = map (λ s. s.1) (datagrams_to t.answer.sends)

-- What a node that ends leaves on its log: its notes, or its notes and that of the step it was
-- taking.
abbrev pub IsLeft : List Text → NodeState → List Text → Type 0
IsLeft offered n left =
    (left ≡ texts_of n.notes)
    ⊎ ((asked : Asked) × (t : Taken) × TakesStep offered n asked t
    × (left ≡ texts_of (with_note n.notes t.answer.note)))
