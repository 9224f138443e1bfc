-- What `dpbr run` prints.
use Rattle.std.specs.Prelude.{◌≡◌, ◌⊎◌, ◌++◌, ℕ, Bool, List, Option, None, Some, Ok, false, flat_map, if◌then◌else◌, length, slice_get, true}
use Rattle.engine.specs.State.{State}
use Rattle.faults.specs.Bytes.{Text}
use Rattle.listing.specs.Listing.{Rules, tree_of}
use Rattle.listing.specs.Tree.{Tree}
use Rattle.package_lists.specs.ListText.{list_text}
use Rattle.program_io.specs.Files.{RefusesBoth, RefusesTexts}
use Rattle.program_io.specs.Listings.{IsDescribedAt}
use Rattle.program_io.specs.NodeLine.{IsLineOf}
use Rattle.program_io.specs.declared.refusal.Refusal.{Refusal}
use Rattle.protocol.specs.State.{engine_of}
use Rattle.simulator.specs.Faults as runs
use Rattle.simulator.specs.History.{IsHistory, IsRunFault, History, taken}
use Rattle.simulator.specs.declared.run_fault.RunFault.{RunFault}
use Rattle.input_files.specs.Traces.{RefusesText}
use Rattle.traces.specs.Trace.{Trace, trace_of}
use Rattle.dpbr_run.specs.Events.{HasEventLines}
use Rattle.world.specs.World.{World, WorldNode, member_at, start}

-- the letters that a node shows: those of its member, if it is up
abbrev pub letters_at : World → ℕ → WorldNode → Option State
letters_at w k x = if x.up then Some (engine_of (member_at w k x)) else None

-- the line says what the node with this number shows
abbrev pub IsNodeLine : World → ℕ → Text → Type 0
IsNodeLine w k line =
    (x : WorldNode) → slice_get w.nodes k ≡ Some x → IsLineOf k (letters_at w k x) line

-- a line for each node, by number, and then the text of the agreed list
pub record IsOutcome (w : World) (text : Text) : Type 0 where
  pub lines : List Text
  pub one_for_each : length lines ≡ length w.nodes
  pub are_lines : (k : ℕ) (line : Text) → slice_get lines k ≡ Some line → IsNodeLine w k line
  pub parts : text ≡ flat_map (λ line. line) lines ++ list_text w.agreed

-- The first text is a trace. Its events lead from the start, over the tree, to a world, and the
-- other text shows that world.
pub record IsRunOf (tree : Tree) (trace text : Text) : Type 0 where
  pub read : Trace
  pub is_trace : trace_of trace ≡ Ok read
  pub history : History
  pub of_tree : history.world.division.tree ≡ tree
  pub weights : history.world.weights ≡ read.weights
  pub events : taken history ≡ read.events
  pub is_history : IsHistory history
  pub outcome : IsOutcome history.world text

-- The result with the lines of the events: those lines, and then the result without them.
pub record IsRunWithEvents (tree : Tree) (trace text : Text) : Type 0 where
  pub lines : Text
  pub rest : Text
  pub run : IsRunOf tree trace rest
  pub are_lines : HasEventLines (start run.history.world.division run.history.world.weights) 1
      (taken run.history) run.history.world lines
  pub parts : text ≡ lines ++ rest

-- the result, with the lines of the events or without
abbrev pub IsResultOf : Bool → Tree → Text → Text → Type 0
IsResultOf true tree trace text = IsRunWithEvents tree trace text
IsResultOf false tree trace text = IsRunOf tree trace text

-- the result of a trace for the tree that a listing describes
pub record IsRunOfListing (rules : Rules) (listing trace text : Text) : Type 0 where
  pub tree : Tree
  pub described : tree_of rules listing ≡ Ok tree
  pub run : IsRunOf tree trace text

-- how the fault of a run is reported: with the number of the refused event
abbrev pub run_refusal : RunFault → Refusal
run_refusal e = record { number = runs.number_of e; place = e.event }

-- what is reported about a trace with a refused event
pub record RefusesEvent (tree : Tree) (trace : Text) (r : Refusal) : Type 0 where
  pub read : Trace
  pub is_trace : trace_of trace ≡ Ok read
  pub fault : RunFault
  pub is_fault : IsRunFault tree read.weights read.events fault.event fault.fault
  pub told : r ≡ run_refusal fault

-- what is reported about a trace, or else about its first refused event
abbrev pub RefusesTrace : Text → Tree → Refusal → Type 0
RefusesTrace trace tree r = RefusesText trace r ⊎ RefusesEvent tree trace r

-- what is reported about a listing, or else about a trace
abbrev pub RefusesRun : Rules → Text → Text → Refusal → Type 0
RefusesRun rules listing trace r = RefusesTexts rules listing (RefusesTrace trace) r

-- the result of a trace for a listing, if reads of these names gave both
pub record IsRun (Gave : Text → Text → Type 0) (listing_name trace_name : Text)
    (is_single has_events : Bool) (text : Text) : Type 0 where
  pub tree : Tree
  pub described : IsDescribedAt Gave listing_name is_single tree
  pub trace : Text
  pub from_trace : Gave trace_name trace
  pub is_run : IsResultOf has_events tree trace text

-- what is reported if one of the two files can't be read, or about the texts that reads of these
-- names gave
abbrev pub RefusesRunFiles : (Text → Text → Type 0) → Text → Text → Bool → Refusal → Type 0
RefusesRunFiles Gave listing trace is_single r =
    RefusesBoth Gave is_single listing trace RefusesTrace r
