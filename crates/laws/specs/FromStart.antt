-- Programs from their start on, among the things that programs do.
use Rattle.std.specs.Prelude.{◌≡◌, ◌≢◌, ℕ, List, Option, Some, slice_get, slice_set}
use Rattle.dpbn_build.specs.Build.{HasBuilt}
use Rattle.dpbn_node.specs.Node.{HasRun}
use Rattle.dpbn_node.specs.Runs.{Running}
use Rattle.laws.specs.BuildPrograms.{BuildTurnsHappened}
use Rattle.laws.specs.Programs.{HaveRun, Programs, Rests, Runs, TurnsHappened}
use Rattle.listing.specs.Tree.{Tree}
use Rattle.lone_node.specs.Handed.{AllBuilds}
use Rattle.protocol.specs.Given.{Given}
use Rattle.stable_record.specs.History.{History, seen}
use Rattle.stable_record.specs.RealFile.{file_agrees}

-- In a run of programs no program of the member runs, and the file of its log has the bytes that it
-- has by this history.
pub record IsDown (tree : Tree) (weights : List ℕ) (first : Programs) (k : ℕ) (known : History)
    (p : Programs) : Type 0 where
  pub did : HaveRun tree weights first p
  pub rests : slice_get p.places k ≡ Some (Rests (seen known))

-- these programs, with the member's program in this state
abbrev pub with_running : Programs → ℕ → Running → Programs
with_running p k state = record {
  places = slice_set p.places k (Runs state);
  offered = p.offered;
}

-- This is a run of programs, in which the member's program runs, in this state.
pub record IsUp (tree : Tree) (weights : List ℕ) (first : Programs) (k : ℕ) (state : Running)
    (p : Programs) : Type 0 where
  pub did : HaveRun tree weights first p
  pub runs : slice_get p.places k ≡ Some (Runs state)

-- `dpbn node` started in the one state, and took this number of turns to the other. Its start and
-- these turns are among the things that programs do, under three premises:
-- - In a run of programs none of the member ran, and its log had the file of this history.
-- - Up to the last state the file did what its history says.
-- - After the start the turns happened in that run, with whatever others did. Each took only what
--   was offered before.
-- Then the run goes on from what others did last: the program runs there in the last state.
pub record HasRunFromStart (tree : Tree) (weights : List ℕ) (k : ℕ) (known : History)
    (builds : Given) (turns : ℕ) (before after : Running) : Type 0 where
  pub run : HasRun builds turns before after
  pub of_programs : (first early late : Programs) → IsDown tree weights first k known early
      → file_agrees after.node.log.disk
      → TurnsHappened tree weights k (AllBuilds builds) before run.turned.answers run.last
      run.turned.led (with_running early k before) late
      → IsUp tree weights first k after (with_running late k after)

-- `dpbn build` started in the one state, and took turns to the other, in which it ends. This holds
-- of it under the same premises.
pub record HasBuiltFromStart (tree : Tree) (weights : List ℕ) (k : ℕ) (known : History)
    (rest : Option ℕ) (before after : Running) : Type 0 where
  pub run : HasBuilt rest before after
  pub of_programs : (first early late : Programs) → IsDown tree weights first k known early
      → file_agrees after.node.log.disk
      → BuildTurnsHappened tree weights k before run.turned.turns run.last run.turned.led
      (with_running early k before) late
      → IsUp tree weights first k after (with_running late k after)

-- In a run of programs one member's program came to this state, as the two definitions above have
-- it. Then another member whose program rested meanwhile is down in that run, and can start next.
abbrev pub OthersStayDown : Type 0
OthersStayDown =
    (tree : Tree) (weights : List ℕ) (first late : Programs) (k j : ℕ) (state : Running)
    (known : History) → IsUp tree weights first k state (with_running late k state)
    → j ≢ k → slice_get late.places j ≡ Some (Rests (seen known))
    → IsDown tree weights first j known (with_running late k state)
