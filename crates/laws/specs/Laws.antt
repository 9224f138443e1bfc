-- Laws: nodes on separate hosts form one world.
use Rattle.std.specs.Prelude.{◌≡◌, ◌++◌, ℕ, true, List, Some, Err, Contains, is_some, slice_get}
use Rattle.engine.specs.Division.{Division}
use Rattle.engine.specs.State as engine
use Rattle.engine.specs.declared.Letter.TheVariants as letters
use Rattle.protocol.specs.Events.{Event}
use Rattle.faults.specs.Bytes.{Text}
use Rattle.laws.specs.Hosts.{Hosts, Up, at_start}
use Rattle.laws.specs.Run.{Run}
use Rattle.laws.specs.Worlds.{AreNodesOf, IsWorldOf}
use Rattle.listing.specs.Tree.{position_of}
use Rattle.node.specs.State.{NodeState}
use Rattle.node.specs.Step.{Comes, Takes}
use Rattle.node.specs.declared.fault.Foreign.{Foreign}
use Rattle.node.specs.declared.fault.NodeFault.TheVariants as fault
use Rattle.package_record.specs.Content.{Content}
use Rattle.protocol.specs.State.{engine_of, held_record}
use Rattle.world.specs.Happening.{Leads}
use Rattle.world.specs.Headline.{HasOneList, IsInRunClosure}
use Rattle.one_list.specs.MatchingLaws.{IsSafe}
use Rattle.world.specs.World.{IsMade, World, start}

-- The premises, which README.md has in plain words:
-- - All nodes have one tree and the same weights (`Run`).
-- - There is one node for each number, and it runs once at a time (`Host`).
-- - At the start there is no note, and nothing was sent (`at_start`).
-- - Bytes that arrive were sent by a node in this run, unaltered (`WasOffered`).
-- - A node that starts opens its own log, as it was left (`HasOpened`, `IsLeft`).
-- - A turn that is refused because memory or room on the log ran out has no effect (`HasStayed`).
--   Another refusal leaves the node in the state after it (`HasRefused`).

-- Whatever happens to the hosts is a list of events. It leads from the start to a world that has
-- the hosts' nodes. So there is one list of packages at each moment.
abbrev pub LoneNodesMakeAWorld : Type 0
LoneNodesMakeAWorld =
    (division : Division) (weights : List ℕ) (h : Hosts) → IsMade division weights
    → Run division.tree weights (at_start weights) h
    → (events : List Event) × (w : World) × IsWorldOf division weights events w h
    × HasOneList division weights events w × IsSafe division weights events w

-- Whatever happens to the hosts later is a list of further events, which lead on from that world.
abbrev pub LaterEventsLeadOn : Type 0
LaterEventsLeadOn =
    (division : Division) (weights : List ℕ) (early late : Hosts) (events : List Event) (v : World)
    → IsMade division weights → IsWorldOf division weights events v early
    → Run division.tree weights early late
    → (more : List Event) × (w : World) × Leads v more w
    × IsWorldOf division weights (events ++ more) w late

-- Conversely, the premises exclude no run of a world: whatever happens in a world may happen to
-- such hosts.
abbrev pub EachRunOfAWorldIsOne : Type 0
EachRunOfAWorldIsOne =
    (division : Division) (weights : List ℕ) (events : List Event) (w : World)
    → IsMade division weights → Leads (start division weights) events w
    → (h : Hosts) × Run division.tree weights (at_start weights) h × AreNodesOf w h

-- No node refuses as foreign what one of the nodes sent.
abbrev pub NothingOfferedIsForeign : Type 0
NothingOfferedIsForeign =
    (division : Division) (weights : List ℕ) (h : Hosts) (k : ℕ) (n : NodeState) (text : Text)
    (f : Foreign) → IsMade division weights → Run division.tree weights (at_start weights) h
    → slice_get h.hosts k ≡ Some (Up n) → Contains h.offered text
    → Takes n (Comes text) (Err (fault.Foreign f)) → ⊥

-- Each node holds only packages that are in that one list.
abbrev pub WhatNodesHoldIsListed : Type 0
WhatNodesHoldIsListed =
    (division : Division) (weights : List ℕ) (events : List Event) (w : World) (h : Hosts) (k : ℕ)
    (n : NodeState) (path : Text) (r : Content) → IsMade division weights
    → IsWorldOf division weights events w h → slice_get h.hosts k ≡ Some (Up n)
    → held_record n.member path ≡ Some r → (r.path ≡ path) × Contains w.agreed r

-- Two nodes never hold different packages for one path, at the same moment or at different ones.
abbrev pub NodesHoldAlike : Type 0
NodesHoldAlike =
    (division : Division) (weights : List ℕ) (early late : Hosts) (j k : ℕ) (n m : NodeState)
    (path : Text) (r q : Content) → IsMade division weights
    → Run division.tree weights (at_start weights) early → Run division.tree weights early late
    → slice_get early.hosts j ≡ Some (Up n) → slice_get late.hosts k ≡ Some (Up m)
    → held_record n.member path ≡ Some r → held_record m.member path ≡ Some q → r ≡ q

-- If a node shows a path as installable, it holds the path's whole run closure.
abbrev pub InstallableIsHeldThere : Type 0
InstallableIsHeldThere =
    (division : Division) (weights : List ℕ) (h : Hosts) (k p : ℕ) (n : NodeState) (path q : Text)
    → IsMade division weights → Run division.tree weights (at_start weights) h
    → slice_get h.hosts k ≡ Some (Up n) → position_of division.tree path ≡ Some p
    → engine.HasLetter (engine_of n.member) p letters.I
    → IsInRunClosure (held_record n.member) path q → is_some (held_record n.member q) ≡ true
