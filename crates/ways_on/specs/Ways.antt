-- Events after which a node holds a unit.
use Rattle.std.specs.Prelude.{◌≡◌, ◌⊎◌, ℕ, true, List, [], ◌∷◌, ◌++◌, Some, All, Contains, is_some, slice_get}
use Rattle.faults.specs.Bytes.{Text}
use Rattle.listing.specs.Tree.{path_at}
use Rattle.protocol.specs.Given.{Given}
use Rattle.engine.specs.Division.{unit_at}
use Rattle.world.specs.Headline.{holds}
use Rattle.protocol.specs.Events.{Event, Claim, Built, Failed, Nudge, Ask, Deliver, Stop, StopIn, Restart, node_of}
use Rattle.node.specs.declared.fault.NodeFault.TheVariants as node_fault
use Rattle.protocol.specs.State.{is_held}
use Rattle.stable_record.specs.declared.log_fault.LogFault.TheVariants.{Full}
use Rattle.world.specs.Happening.{Happens, IsRefused, Leads, is_up}
use Rattle.world.specs.World.{World, WorldNode, member_at}
use Rattle.world.specs.declared.fault.WorldFault.{WorldFault}
use Rattle.world.specs.declared.fault.WorldFault.TheVariants as fault

-- ---- a way

-- the refusal of a node whose log is full
abbrev pub no_room : WorldFault
no_room = fault.Node (node_fault.Log Full)

-- Taking the events in order from the world, each at a node that is up: if none is refused, they
-- lead to a world that satisfies P; and the first one that is refused, is refused only because the
-- log of its node is full.
abbrev pub LeadsTo : (World → Type 0) → World → List Event → Type 0
LeadsTo P w [] = P w
LeadsTo P w (e ∷ es) =
    (is_up w (node_of e) ≡ true)
    × (((v : World) × Happens w e v × LeadsTo P v es) ⊎ IsRefused w e no_room)

-- Node k holds a build of the unit.
pub record HoldsUnit (w : World) (k u : ℕ) : Type 0 where
  pub node : WorldNode
  pub stands : slice_get w.nodes k ≡ Some node
  pub up : node.up ≡ true
  pub held : is_held (member_at w k node) u ≡ true

-- The events are a way for node k to obtain the unit.
abbrev pub IsWay : World → ℕ → ℕ → List Event → Type 0
IsWay w k u events = LeadsTo (λ v. HoldsUnit v k u) w events

-- The event is the node's own claim for the path on this host, its build of these files, or the
-- delivery of a datagram to a node.
abbrev pub IsOnWay : ℕ → Text → ℕ → Given → Event → Type 0
IsOnWay k path host given (Claim n p h above) = (n ≡ k) × (p ≡ path) × (h ≡ host)
IsOnWay k path host given (Built n p g) = (n ≡ k) × (p ≡ path) × (g ≡ given)
IsOnWay k path host given (Deliver d n) = Prim.Unit {0}
IsOnWay k path host given (Failed n p) = ⊥
IsOnWay k path host given (Nudge n) = ⊥
IsOnWay k path host given (Ask n p) = ⊥
IsOnWay k path host given (Stop n) = ⊥
IsOnWay k path host given (StopIn e l) = ⊥
IsOnWay k path host given (Restart n) = ⊥

-- Each event is one of these, at a node that is up.
abbrev pub AreOnWay : World → ℕ → Text → ℕ → Given → List Event → Type 0
AreOnWay w k path host given events =
    All (λ e. IsOnWay k path host given e × (is_up w (node_of e) ≡ true)) events

-- ---- taking the events of a way

-- What holds when the events are taken in order from the world.
pub record Arrives (w : World) (k u : ℕ) (events : List Event) : Type 0 where
  -- no event is at a node that is down
  pub up : (v : World) (early late : List Event) (e : Event)
      → events ≡ early ++ e ∷ late → Leads w early v → is_up v (node_of e) ≡ true
  -- the first event that is refused, is refused only because a log is full
  pub refused : (v : World) (early late : List Event) (e : Event) (f : WorldFault)
      → events ≡ early ++ e ∷ late → Leads w early v → IsRefused v e f → f ≡ no_room
  -- if none is refused, the node holds the unit
  pub held : (v : World) → Leads w events v → HoldsUnit v k u
  -- and so it holds a record for each of the unit's packages
  pub packages : (v : World) (x : WorldNode) (p : ℕ) → Leads w events v
      → slice_get v.nodes k ≡ Some x → Contains (unit_at v.division u).packages p
      → is_some (holds v k x (path_at v.division.tree p)) ≡ true
