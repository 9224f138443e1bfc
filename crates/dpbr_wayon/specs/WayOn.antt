-- What `dpbr wayon` prints.
use Rattle.std.specs.Prelude.{◌≡◌, ◌++◌, ℕ, Bool, List, [], ◌∷◌, Option, None, Some, Ok, filter, map}
use Rattle.protocol.specs.Events.{Event}
use Rattle.faults.specs.Bytes.{Text, is_among, line_feed}
use Rattle.listing.specs.Tree.{Tree, path_at}
use Rattle.pkgpath.specs.PkgPath.{path_of}
use Rattle.program_io.specs.Listings.{IsDescribedAt}
use Rattle.protocol.specs.Given.{Given}
use Rattle.protocol.specs.Jobs.{files_for}
use Rattle.ways_on.specs.History.{History, IsHistory, taken}
use Rattle.traces.specs.Builds.{builds_of}
use Rattle.traces.specs.Trace.{Trace, trace_of}
use Rattle.traces.specs.Written.{trace_text}
use Rattle.engine.specs.Division.{Division, number_found, unit_at}
use Rattle.ways_on.specs.Asked.{IsGranted}
use Rattle.ways_on.specs.Laws.{HasWay}

-- ---- files for the unit

-- those of the paths for which there are files, with their files
abbrev pub given_of : Given → List Text → Given
given_of builds paths =
    map (λ p. (p, files_for builds p)) (filter (is_among (map (λ g. g.0) builds)) paths)

-- the files for the unit's packages, if there is a unit
abbrev pub given_at : Division → Given → Option ℕ → Given
given_at d builds None = []
given_at d builds (Some u) = given_of builds (map (path_at d.tree) (unit_at d u).packages)

-- the files for the unit that the path names
abbrev pub handed_over : Division → Text → Given → Given
handed_over d path builds = given_at d builds (number_found d path)

-- ---- what is printed

-- The text is the trace of the events that were taken and then those of a way, and a line feed. It
-- is parsed as exactly that trace.
pub record IsWritten (h : History) (weights : List ℕ) (node : ℕ) (path : Text) (host : ℕ)
    (given : Given) (text : Text) : Type 0 where
  pub way : List Event
  pub has_way : HasWay h.world node path host given way
  pub granted : IsGranted h.world node path host given
  pub written : text
      ≡ trace_text (record { weights = weights; events = taken h ++ way }) ++ line_feed ∷ []
  pub again : trace_of text ≡ Ok (record { weights = weights; events = taken h ++ way })

-- The trace's events lead from the start, over the tree, to a world, and the text is written for
-- that world.
pub record IsAfter (tree : Tree) (trace : Trace) (node : ℕ) (path : Text) (host : ℕ)
    (builds : Given) (text : Text) : Type 0 where
  pub history : History
  pub of_tree : history.world.division.tree ≡ tree
  pub weights : history.world.weights ≡ trace.weights
  pub events : taken history ≡ trace.events
  pub is_history : IsHistory history
  pub is_written : IsWritten history trace.weights node path host
      (handed_over history.world.division path builds) text

-- The texts are a trace, a package path and files for paths, and this is printed for them.
pub record IsWayOnOf (tree : Tree) (trace : Text) (node : ℕ) (path : Text) (host : ℕ)
    (builds text : Text) : Type 0 where
  pub read : Trace
  pub is_trace : trace_of trace ≡ Ok read
  pub named : Text
  pub is_path : path_of path ≡ Ok named
  pub given : Given
  pub are_builds : builds_of builds ≡ Some given
  pub after : IsAfter tree read node named host given text

-- This is printed if reads of these names gave the trace and the files.
pub record HasWayOn (Gave : Text → Text → Type 0) (trace_name builds_name : Text) (tree : Tree)
    (node : ℕ) (path : Text) (host : ℕ) (text : Text) : Type 0 where
  pub trace : Text
  pub from_trace : Gave trace_name trace
  pub builds : Text
  pub from_builds : Gave builds_name builds
  pub is_way_on : IsWayOnOf tree trace node path host builds text

-- what is printed for this node, path and host, given a listing, a trace and files for paths, if
-- reads of these names gave all three
pub record IsWayOn (Gave : Text → Text → Type 0) (listing_name trace_name builds_name : Text)
    (is_single : Bool) (node : ℕ) (path : Text) (host : ℕ) (text : Text) : Type 0 where
  pub tree : Tree
  pub described : IsDescribedAt Gave listing_name is_single tree
  pub has_way_on : HasWayOn Gave trace_name builds_name tree node path host text
