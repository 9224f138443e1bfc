-- When there is a way, and why not.
use Rattle.std.specs.Prelude.{◌≡◌, ◌⊎◌, ℕ, Bool, true, false, not, nat_le, is_some, length, [], ◌∷◌, Option, None, Some, option_map, slice_get, if◌then◌else◌}
use Rattle.faults.specs.Answers.{first_that_applies, option_or}
use Rattle.faults.specs.Bytes.{Text}
use Rattle.claims.specs.Quorums.{is_majority}
use Rattle.engine.specs.declared.Letter.{Letter}
use Rattle.engine.specs.declared.Letter.TheVariants as letters
use Rattle.listing.specs.Tree.{position_of}
use Rattle.protocol.specs.Given.{Given}
use Rattle.protocol.specs.Jobs.{build_by, job_of}
use Rattle.protocol.specs.State.{State, Value}
use Rattle.protocol.specs.Step.{IsLetterOf, files_refusal}
use Rattle.protocol.specs.declared.refusal.Refusal.TheVariants as refusals
use Rattle.engine.specs.Division.{number_found}
use Rattle.ways_on.specs.Rounds.{is_round_left, next_claim}
use Rattle.ways_on.specs.declared.fault.WayFault.{WayFault}
use Rattle.ways_on.specs.declared.fault.WayFault.TheVariants as fault
use Rattle.world.specs.Happening.{is_up}
use Rattle.world.specs.World.{World, WorldNode, member_at}

-- Whether the letter means that the unit can be built now.
abbrev pub is_queued : Letter → Bool
is_queued letters.Q = true
is_queued _ = false

-- Whether the nodes that are up are a majority.
abbrev pub is_majority_up : World → Bool
is_majority_up w = is_majority w.weights (is_up w)

-- the build that member s makes of the files for unit u, under the claim that it can open next
abbrev pub next_build : World → State → ℕ → ℕ → Given → Value
next_build w s u host given =
    build_by s u (job_of s u host (next_claim w u s.me)) given

-- The first that applies to a unit with this letter: it can't be built now, no majority is up, no
-- round is left, the files are of other packages, the files make no build.
abbrev pub refusal_for : World → State → Letter → ℕ → Given → ℕ → Option WayFault
refusal_for w s letter host given u = option_or
    (first_that_applies (
    (not (is_queued letter), fault.NotQueued)
    ∷ (not (is_majority_up w), fault.NoMajority)
    ∷ (not (is_round_left w u s.me), fault.Refused refusals.RoundsSpent)
    ∷ []))
    (option_map fault.Refused (files_refusal s u given (next_build w s u host given)))

-- the refusal of a path that names no unit: it is ignored and so can't be built, or not listed
abbrev pub refusal_of_stranger : State → Text → WayFault
refusal_of_stranger s path =
    if is_some (position_of s.division.tree path) then fault.NotQueued
    else fault.Refused refusals.Unlisted

-- the refusal for the unit that the path names, if it names one; None if there is a way
abbrev pub refusal_at : World → State → Letter → Text → ℕ → Given → Option ℕ → Option WayFault
refusal_at w s letter path host given None = Some (refusal_of_stranger s path)
refusal_at w s letter path host given (Some u) = refusal_for w s letter host given u

-- what is tested before the node is asked
abbrev pub absence_of : World → ℕ → Option WayFault
absence_of w k = first_that_applies (
    (nat_le (length w.nodes) k, fault.NoSuchNode)
    ∷ (not (is_up w k), fault.NodeDown)
    ∷ [])

-- The node is up, and this is the first reason why it knows no way to the unit that the path names;
-- None if there is no such reason.
pub record IsTested (w : World) (k : ℕ) (path : Text) (host : ℕ) (given : Given)
    (tested : Option WayFault) : Type 0 where
  pub node : WorldNode
  pub stands : slice_get w.nodes k ≡ Some node
  pub up : node.up ≡ true
  pub letter : Letter
  pub shown : IsLetterOf (member_at w k node) (number_found w.division path) letter
  pub tested_is : tested ≡ refusal_at w (member_at w k node) letter path host given
      (number_found w.division path)

-- There is no way, for this reason.
abbrev pub HasNoWay : World → ℕ → Text → ℕ → Given → WayFault → Type 0
HasNoWay w k path host given f =
    (absence_of w k ≡ Some f) ⊎ IsTested w k path host given (Some f)

-- Nothing is refused: there is a way.
abbrev pub IsGranted : World → ℕ → Text → ℕ → Given → Type 0
IsGranted w k path host given = IsTested w k path host given None
