-- What `dpbr wayon` reports if it prints no trace.
use Rattle.std.specs.Prelude.{◌≡◌, ◌⊎◌, ℕ, Bool, None, Some, Ok, Err}
use Rattle.dpbr_wayon.specs.WayOn.{handed_over}
use Rattle.faults.specs.Bytes.{Text}
use Rattle.listing.specs.Tree.{Tree}
use Rattle.pkgpath.specs.PkgPath.{path_of}
use Rattle.pkgpath.specs.Refusals as paths
use Rattle.pkgpath.specs.declared.PathFault.{PathFault}
use Rattle.program_io.specs.Files.{RefusesAt}
use Rattle.program_io.specs.Listings.{IsDescribedAt, RefusesListingAt}
use Rattle.program_io.specs.declared.refusal.Refusal.{Refusal}
use Rattle.protocol.specs.Given.{Given}
use Rattle.ways_on.specs.Faults as runs
use Rattle.ways_on.specs.History.{History, IsHistory, IsRunFault, taken}
use Rattle.ways_on.specs.RunFault.{RunFault}
use Rattle.input_files.specs.Builds.{RefusesBuilds}
use Rattle.input_files.specs.Traces.{IsSpelledAt, RefusesTraceAt}
use Rattle.traces.specs.Builds.{builds_of}
use Rattle.traces.specs.Trace.{Trace}
use Rattle.ways_on.specs.Asked.{HasNoWay}
use Rattle.ways_on.specs.Refusals as ways
use Rattle.ways_on.specs.declared.fault.WayFault.{WayFault}
use Rattle.world.specs.World.{World}

-- ---- about texts

-- how the fault of a path is reported, which has no place
abbrev pub path_refusal : PathFault → Refusal
path_refusal f = record { number = paths.number_of f; place = None }

-- what is reported about a text that isn't a package path
abbrev pub RefusesPath : Text → Refusal → Type 0
RefusesPath path r = (f : PathFault) × (path_of path ≡ Err f) × (r ≡ path_refusal f)

-- ---- about a parsed trace

-- what is reported about a world in which no way is found: the reason, which has no place
pub record RefusesWay (w : World) (node : ℕ) (path : Text) (host : ℕ) (given : Given)
    (r : Refusal) : Type 0 where
  pub fault : WayFault
  pub is_fault : HasNoWay w node path host given fault
  pub told : r ≡ record { number = ways.number_of fault; place = None }

-- what is reported about the first refused event: the reason, and the event's number
pub record RefusesEvents (tree : Tree) (trace : Trace) (r : Refusal) : Type 0 where
  pub fault : RunFault
  pub is_fault : IsRunFault tree trace.weights trace.events fault.event fault.fault
  pub told : r ≡ record { number = runs.number_of fault; place = fault.event }

-- the events lead from the start, over the tree, to a world, and this is reported about that world
pub record RefusesAfter (tree : Tree) (trace : Trace) (node : ℕ) (path : Text) (host : ℕ)
    (builds : Given) (r : Refusal) : Type 0 where
  pub history : History
  pub of_tree : history.world.division.tree ≡ tree
  pub weights : history.world.weights ≡ trace.weights
  pub events : taken history ≡ trace.events
  pub is_history : IsHistory history
  pub refuses : RefusesWay history.world node path host
      (handed_over history.world.division path builds) r

-- what is reported about the first refused event, or else about the world that the events lead to
abbrev pub RefusesTaken : Tree → Trace → ℕ → Text → ℕ → Given → Refusal → Type 0
RefusesTaken tree trace node path host builds r =
    RefusesEvents tree trace r ⊎ RefusesAfter tree trace node path host builds r

-- ---- each after what is read before it

-- what is reported about the files for paths, or else about the events
abbrev pub RefusesGiven : Tree → Trace → ℕ → Text → ℕ → Text → Refusal → Type 0
RefusesGiven tree trace node path host builds r =
    RefusesBuilds builds r
    ⊎ ((given : Given) × (builds_of builds ≡ Some given)
    × RefusesTaken tree trace node path host given r)

-- what is reported about the path, or else about the files with this name
abbrev pub RefusesNamed : (Text → Text → Type 0) → Text → Tree → Trace → ℕ → Text → ℕ → Refusal
    → Type 0
RefusesNamed Gave builds tree trace node path host r =
    RefusesPath path r
    ⊎ ((named : Text) × (path_of path ≡ Ok named)
    × RefusesAt Gave builds (λ text. RefusesGiven tree trace node named host text) r)

-- what is reported about the trace with this name, or else about the path
abbrev pub RefusesBehind : (Text → Text → Type 0) → Text → Text → Tree → ℕ → Text → ℕ → Refusal
    → Type 0
RefusesBehind Gave trace builds tree node path host r =
    RefusesTraceAt Gave trace r
    ⊎ ((read : Trace) × IsSpelledAt Gave trace read
    × RefusesNamed Gave builds tree read node path host r)

-- what is reported about the listing with this name, or else about the trace
abbrev pub RefusesWayOn : (Text → Text → Type 0) → Text → Text → Text → Bool → ℕ → Text → ℕ
    → Refusal → Type 0
RefusesWayOn Gave listing trace builds is_single node path host r =
    RefusesListingAt Gave listing is_single r
    ⊎ ((tree : Tree) × IsDescribedAt Gave listing is_single tree
    × RefusesBehind Gave trace builds tree node path host r)
