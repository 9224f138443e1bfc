-- Laws: programs on hosts of their own are one world.
use Rattle.std.specs.Prelude.{◌≡◌, ℕ, true, false, List, Some, Ok, slice_get}
use Rattle.dpbn_node.specs.Node.{HasRun}
use Rattle.dpbn_node.specs.Runs.{Running}
use Rattle.engine.specs.Division.{Division}
use Rattle.faults.specs.Bytes.{Text}
use Rattle.laws.specs.Hosts.{Down, Hosts, Up, at_start}
use Rattle.laws.specs.Programs.{HaveRun, Programs, Rests, Runs, TurnsHappened, at_first}
use Rattle.laws.specs.Run.{Run}
use Rattle.laws.specs.Worlds.{IsWorldOf}
use Rattle.listing.specs.Tree.{Tree}
use Rattle.lone_node.specs.Handed.{AllBuilds}
use Rattle.node.specs.OnLog.{identity}
use Rattle.node.specs.State.{NodeState}
use Rattle.one_list.specs.MatchingLaws.{IsSafe}
use Rattle.protocol.specs.Events.{Event}
use Rattle.protocol.specs.Given.{Given}
use Rattle.stable_record.specs.Opening.{Opens}
use Rattle.world.specs.Headline.{HasOneList}
use Rattle.world.specs.World.{IsMade, World}

-- These hosts are those of the programs: the same was offered, and if a program runs, its node is
-- the host's. A node whose device failed is the host's node, stopped. If none runs, what the host's
-- log has is what the member's file opens as.
pub record AreHostsOf (tree : Tree) (weights : List ℕ) (p : Programs) (h : Hosts) : Type 0 where
  pub offered : h.offered ≡ p.offered
  pub up : (k : ℕ) (s : Running) → slice_get p.places k ≡ Some (Runs s)
      → s.node.node.stopped ≡ false → slice_get h.hosts k ≡ Some (Up s.node.node)
  pub stopped : (k : ℕ) (s : Running) → slice_get p.places k ≡ Some (Runs s)
      → s.node.node.stopped ≡ true
      → (n : NodeState) × (slice_get h.hosts k ≡ Some (Up n))
      × (s.node.node ≡ record n { stopped = true })
  pub down : (k : ℕ) (file : Text) → slice_get p.places k ≡ Some (Rests file)
      → (texts : List Text) × (slice_get h.hosts k ≡ Some (Down texts))
      × Opens (identity tree weights k) file (Ok texts)

-- Whatever programs do that start over one tree with the same weights is a run of hosts. So it is a
-- list of events, which lead from the start to a world that has the programs' nodes, and there is
-- one list of packages at each moment.
abbrev pub ProgramsMakeAWorld : Type 0
ProgramsMakeAWorld =
    (division : Division) (weights : List ℕ) (p : Programs) → IsMade division weights
    → HaveRun division.tree weights (at_first weights) p
    → (h : Hosts) × AreHostsOf division.tree weights p h
    × Run division.tree weights (at_start weights) h
    × (events : List Event) × (w : World) × IsWorldOf division weights events w h
    × HasOneList division weights events w × IsSafe division weights events w

-- The turns that `dpbn node` promises are among the things that programs do: from the state in
-- which its node was, through its turns and what others did meanwhile, to the state that it left.
abbrev pub NodeTurnsAreOfPrograms : Type 0
NodeTurnsAreOfPrograms =
    (tree : Tree) (weights : List ℕ) (k : ℕ) (builds : Given) (turns : ℕ) (old new : Running)
    (first early late : Programs) (run : HasRun builds turns old new)
    → HaveRun tree weights first early → slice_get early.places k ≡ Some (Runs old)
    → TurnsHappened tree weights k (AllBuilds builds) old run.turned.answers run.last
    run.turned.led early late
    → (q : Programs) × HaveRun tree weights first q × (slice_get q.places k ≡ Some (Runs new))
    × (q.offered ≡ late.offered)
