-- The turns of `dpbn build` among the things that programs do.
use Rattle.std.specs.Prelude.{◌≡◌, ℕ, List, [], ◌∷◌, Option, Some, slice_get}
use Rattle.std.specs.declared.rt.LibcRuntime.{LibcRuntime}
use Rattle.dpbn_build.specs.Build.{HasBuilt}
use Rattle.dpbn_build.specs.Turns.{HasExchanged, Turn, TurnsLead, told_to}
use Rattle.dpbn_node.specs.Runs.{Running, file_disk, udp_port}
use Rattle.laws.specs.Programs.{HaveRun, IsTurnThere, OthersDid, Programs, Runs}
use Rattle.listing.specs.Tree.{Tree}
use Rattle.lone_node.specs.Handed.{SoFar}
use Rattle.udp.specs.Notifying.{HasNotified}
use Rattle.udp.specs.declared.patience.Hurry.{Hurry}
use Rattle.udp.specs.declared.udp_port.UdpPort.{UdpPort}

-- the port with this wait
abbrev pub hurried_port : UdpPort LibcRuntime → Hurry → UdpPort LibcRuntime
hurried_port port hurry = record port { hurry = hurry }

-- Turns of `dpbn build`, one after the other, as its contract has them.
abbrev pub BuildTurnsLead : Running → List Turn → Running → Type 0
BuildTurnsLead = TurnsLead file_disk udp_port HasNotified hurried_port

-- These turns are what happened, with all that others did before, between and after them.
abbrev pub BuildTurnsHappened : (tree : Tree) (weights : List ℕ) (k : ℕ) (old : Running)
    (turns : List Turn) (new : Running) → BuildTurnsLead old turns new → Programs → Programs
    → Type 0
BuildTurnsHappened tree weights k old [] new led early late = OthersDid tree weights k early late
BuildTurnsHappened tree weights k old (turn ∷ more) new (between, (port, noticed, is), led) early
    late =
    (p : Programs) × (q : Programs) × OthersDid tree weights k early p
    × IsTurnThere k (SoFar turn.made turn.wish) (told_to hurried_port turn.hurry port old) between
    turn.answer is p q
    × BuildTurnsHappened tree weights k between more new led q late

-- The turns that `dpbn build` promises are among the things that programs do: from the state in
-- which its node was, through its turns and what others did meanwhile, to the state that it left.
abbrev pub BuildTurnsAreOfPrograms : Type 0
BuildTurnsAreOfPrograms =
    (tree : Tree) (weights : List ℕ) (k : ℕ) (rest : Option ℕ) (old new : Running)
    (first early late : Programs) (run : HasBuilt rest old new)
    → HaveRun tree weights first early → slice_get early.places k ≡ Some (Runs old)
    → BuildTurnsHappened tree weights k old run.turned.turns run.last run.turned.led early late
    → (q : Programs) × HaveRun tree weights first q × (slice_get q.places k ≡ Some (Runs new))
    × (q.offered ≡ late.offered)

-- However many notices a port exchanges before a turn, nothing else happens to it than that notices
-- are sent and taken.
abbrev pub ExchangesAreNotices : Type 0
ExchangesAreNotices =
    (old new : UdpPort LibcRuntime) → HasExchanged HasNotified old new → HasNotified old new

-- `dpbn build` took turns from one state of its node to the other. If they happened in a run of
-- programs, together with what others did, they are among the things that programs do there.
pub record HasBuiltAmong (rest : Option ℕ) (old new : Running) : Type 0 where
  pub run : HasBuilt rest old new
  pub of_programs : (tree : Tree) (weights : List ℕ) (k : ℕ) (first early late : Programs)
      → HaveRun tree weights first early → slice_get early.places k ≡ Some (Runs old)
      → BuildTurnsHappened tree weights k old run.turned.turns run.last run.turned.led early late
      → (q : Programs) × HaveRun tree weights first q × (slice_get q.places k ≡ Some (Runs new))
      × (q.offered ≡ late.offered)
