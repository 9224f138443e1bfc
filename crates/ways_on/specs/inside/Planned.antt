-- The parts of a way.
use Rattle.std.specs.Prelude.{◌≡◌, ◌<◌, ℕ, suc, true, Some, Result, Ok, Err, slice_get, nat_lt, if◌then◌else◌}
use Rattle.claims.specs.declared.claim.Claim.{Claim}
use Rattle.claims.specs.Claim.{greatest_round}
use Rattle.engine.specs.declared.Letter.TheVariants as letters
use Rattle.faults.specs.Bytes.{Text}
use Rattle.protocol.specs.Given.{Given}
use Rattle.protocol.specs.Jobs.{job_of}
use Rattle.protocol.specs.State.{HasLetter, State, Value}
use Rattle.protocol.specs.Step.{made_by}
use Rattle.protocol.specs.declared.refusal.Refusal.{Refusal}
use Rattle.protocol.specs.declared.refusal.Refusal.TheVariants as refusals
use Rattle.engine.specs.Division.{number_found}
use Rattle.ways_on.specs.Asked.{is_majority_up, next_build}
use Rattle.ways_on.specs.Rounds.{last_round}
use Rattle.ways_on.specs.declared.fault.WayFault.{WayFault}
use Rattle.ways_on.specs.declared.fault.WayFault.TheVariants as fault
use Rattle.ways_on.specs.declared.plan.Plan.{Plan}
use Rattle.ways_on.specs.inside.Listed.{asked_of}
use Rattle.world.specs.World.{World, WorldNode, member_at}

-- The node is up, and shows the unit that the path names as one that can be built now.
pub record IsShown (w : World) (k : ℕ) (path : Text) : Type 0 where
  pub node : WorldNode
  pub stands : slice_get w.nodes k ≡ Some node
  pub up : node.up ≡ true
  pub unit : ℕ
  pub named : number_found w.division path ≡ Some unit
  pub queued : HasLetter (member_at w k node) unit letters.Q

-- what member s makes of the files for unit u under the claim, or why they make no build
abbrev pub made_under : State → ℕ → ℕ → Claim → Given → Result Value Refusal
made_under s u host c given = made_by s u (job_of s u host c) given

-- a member's refusal, as a refusal of a way
abbrev pub fault_of : Refusal → WayFault
fault_of refusals.Memory = fault.Memory
fault_of refusals.Unlisted = fault.Refused refusals.Unlisted
fault_of refusals.Ignored = fault.Refused refusals.Ignored
fault_of refusals.Waiting = fault.Refused refusals.Waiting
fault_of refusals.Held = fault.Refused refusals.Held
fault_of refusals.NoClaim = fault.Refused refusals.NoClaim
fault_of refusals.RoundsSpent = fault.Refused refusals.RoundsSpent
fault_of (refusals.BadFiles f) = fault.Refused (refusals.BadFiles f)
fault_of refusals.OtherTree = fault.Refused refusals.OtherTree
fault_of refusals.NotAMember = fault.Refused refusals.NotAMember
fault_of refusals.OtherPackages = fault.Refused refusals.OtherPackages

-- a member's answer, with its refusal as a refusal of a way
abbrev pub as_way : Result Value Refusal → Result Value WayFault
as_way (Ok build) = Ok build
as_way (Err r) = Err (fault_of r)

-- what member s makes of the files under its claim in the round above this one, or why there is no
-- such build
abbrev pub next_or_fault : State → ℕ → ℕ → ℕ → Given → Result Value WayFault
next_or_fault s u host last given =
    if nat_lt last greatest_round
    then as_way (made_under s u host (record { round = suc last; member = s.me }) given)
    else Err (fault.Refused refusals.RoundsSpent)

-- These are the parts of the way for node k.
pub record IsPlan (w : World) (k : ℕ) (path : Text) (host : ℕ) (given : Given)
    (plan : Plan) : Type 0 where
  pub shown : IsShown w k path
  pub enough : is_majority_up w ≡ true
  pub asked : plan.asked.items ≡ asked_of w
  pub last : plan.last ≡ last_round w shown.unit k
  pub left : plan.last < greatest_round
  pub build : plan.build ≡ next_build w (member_at w k shown.node) shown.unit host given
