-- A port that records what is offered to it, and a node that hears only what it sent itself.
use Rattle.std.specs.Prelude.{◌≡◌, ◌<◌, ℕ, List, Option, None, Some, map, slice_get}
use Rattle.datagram_ports.specs.Kept.{Parcel}
use Rattle.faults.specs.Bytes.{Text}
use Rattle.laws.specs.Hosts.{Hosts, Up}
use Rattle.laws.specs.Run.{Run}
use Rattle.laws.specs.declared.recorded.Recorded.{Recorded}
use Rattle.listing.specs.Tree.{Tree}
use Rattle.lone_node.specs.State.{SoloState}
use Rattle.turn_rules.specs.declared.act.Act.{Act}
use Rattle.turn_rules.specs.declared.act.Act.TheVariants.{Own, Datagram}

-- what was offered to the port so far, in order, if all of it was recorded
abbrev pub offered_to : {P : Type 0} → Recorded P → Option (List Parcel)
offered_to port = port.sends.offered

-- All that was offered to the port was recorded.
abbrev pub IsRecorded : {P : Type 0} → Recorded P → Type 0
IsRecorded port = (parcels : List Parcel) × (offered_to port ≡ Some parcels)

-- the texts of these datagrams
abbrev pub texts_of : List Parcel → List Text
texts_of parcels = map (λ (parcel : Parcel). parcel.text) parcels

-- Among the first datagrams that were offered to the port, as many as this, there is one with this
-- text.
abbrev pub IsAmongFirst : {P : Type 0} → Recorded P → ℕ → Text → Type 0
IsAmongFirst port first text =
    (parcels : List Parcel) × (offered_to port ≡ Some parcels)
    × (place : ℕ) × (place < first) × (parcel : Parcel) × (slice_get parcels place ≡ Some parcel)
    × (parcel.text ≡ text)

-- All that was offered to the port was recorded. If a turn that did this took bytes, they are among
-- the first datagrams that were offered.
abbrev pub HasHeard : {P : Type 0} → Recorded P → ℕ → Option Act → Type 0
HasHeard port first None = IsRecorded port
HasHeard port first (Some (Own input)) = IsRecorded port
HasHeard port first (Some (Datagram bytes)) = IsAmongFirst port first bytes.items

-- The node is up on this host, and all that was offered so far was offered to its port.
pub record IsAlone {D P : Type 0} (h : Hosts) (k : ℕ) (s : SoloState D (Recorded P)) : Type 0 where
  pub up : slice_get h.hosts k ≡ Some (Up s.node.node)
  pub parcels : List Parcel
  pub recorded : offered_to s.port ≡ Some parcels
  pub offered : h.offered ≡ texts_of parcels

-- Each run of hosts that leads to the node in the one state goes on to it in the other.
abbrev pub RunsGoOn : {D P : Type 0} → SoloState D (Recorded P) → SoloState D (Recorded P) → Type 0
RunsGoOn old new =
    (tree : Tree) (weights : List ℕ) (first h : Hosts) (k : ℕ) → Run tree weights first h
    → IsAlone h k old → (g : Hosts) × Run tree weights first g × IsAlone g k new
