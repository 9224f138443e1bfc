-- What `dpbn cluster` prints, and what it reports if it can't run.
use Rattle.std.specs.Prelude.{◌≡◌, ◌⊎◌, ℕ, List, Some, flat_map, length, option_map, slice_get}
use Rattle.turn_rules.specs.Refusals.{number_of, place_of}
use Rattle.turn_rules.specs.declared.fault.TurnFault.{TurnFault}
use Rattle.dpbn_cluster.specs.Running.{AreEventsOfTurns}
use Rattle.dpbn_node.specs.Given.{AreTold}
use Rattle.dpbn_node.specs.Node.{RefusesGiven, socket_refusal}
use Rattle.dpbn_cli.specs.declared.Files.{Files}
use Rattle.dpbr_run.specs.Run.{IsNodeLine}
use Rattle.protocol.specs.Events.{Event}
use Rattle.faults.specs.Bytes.{Text}
use Rattle.program_io.specs.Listings.{IsDescribed, RefusesListingFile}
use Rattle.program_io.specs.Refusals.{IsSystemRefusal}
use Rattle.program_io.specs.declared.refusal.Refusal.{Refusal}
use Rattle.engine.specs.Division.{Division}
use Rattle.world.specs.Happening.{Leads}
use Rattle.world.specs.World.{IsMade, World, start}

-- a line for each node of the world, by number, as `dpbr run` prints it
pub record HasLines (w : World) (text : Text) : Type 0 where
  pub lines : List Text
  pub one_for_each : length lines ≡ length w.nodes
  pub are_lines : (k : ℕ) (line : Text) → slice_get lines k ≡ Some line → IsNodeLine w k line
  pub parts : text ≡ flat_map (λ line. line) lines

-- The events lead from the start, over the units among members with these weights, to a world, and
-- the text has its lines.
pub record IsShown (division : Division) (weights : List ℕ) (events : List Event) (text : Text)
    : Type 0 where
  pub made : IsMade division weights
  pub world : World
  pub led : Leads (start division weights) events world
  pub has_lines : HasLines world text

-- The text shows the events of the requested number of turns, over the tree that a listing
-- describes, among the given number of members with the given weights.
pub record IsClusterText (files : Files) (text : Text) : Type 0 where
  pub division : Division
  pub described : IsDescribed files.is_single division.tree
  pub weights : List ℕ
  pub told : AreTold files.members (option_map (λ t. t.now) files.weights) weights
  pub events : List Event
  pub of_turns : AreEventsOfTurns files.turns events
  pub shown : IsShown division weights events text

-- what is reported if no cluster is made: the number and place of the fault, for instance that a
-- log can't be opened or has notes
abbrev pub IsClusterRefusal : Refusal → Type 0
IsClusterRefusal r =
    (f : TurnFault) × (r ≡ record { number = number_of f; place = place_of f })

-- what is reported about the logs' files, the sockets or the logs, or if a trace can't be written
abbrev pub RefusesStart : Refusal → Type 0
RefusesStart r = IsSystemRefusal r ⊎ ((r ≡ socket_refusal) ⊎ IsClusterRefusal r)

-- what is reported about the listing, the builds or the weights, or the start
abbrev pub RefusesCluster : Files → Refusal → Type 0
RefusesCluster files r =
    RefusesListingFile files.is_single r ⊎ (RefusesGiven r ⊎ RefusesStart r)
