-- A claim that waits for a build, and its answer.
use Rattle.std.specs.Prelude.{◌≡◌, ◌<◌, ℕ, Bool, true, false, IfSome, Option, Some, length}
use Rattle.claims.specs.declared.claim.Claim.{Claim}
use Rattle.faults.specs.Bytes.{Text}
use Rattle.node.specs.declared.fault.NodeFault.{NodeFault}
use Rattle.node.specs.declared.fault.NodeFault.TheVariants as fault
use Rattle.protocol.specs.Given.{Given}
use Rattle.protocol.specs.Jobs.{are_given, paths_at}
use Rattle.protocol.specs.Member.{IsMember}
use Rattle.protocol.specs.State.{Building, State, name_at}
use Rattle.protocol.specs.declared.refusal.Refusal.TheVariants as refusals

-- the member's open claim is for the unit, and waits for a build
pub record IsWaiting (s : State) (u : ℕ) : Type 0 where
  pub host : ℕ
  pub claim : Claim
  pub is_open : s.claim ≡ Some (record { unit = u; host = host; progress = Building claim })
  pub there : u < length s.division.units

-- `name` is the unit's name, and `given`, if any, has files for exactly its packages.
pub record AreParts (s : State) (u : ℕ) (name : Text) (given : Option Given) : Type 0 where
  pub member : IsMember s
  pub named : name ≡ name_at s u
  pub whole : IfSome given (λ g. are_given (paths_at s u) g ≡ true)

-- Whether the node refuses these files because they make no build.
abbrev pub is_bad_files : NodeFault → Bool
is_bad_files (fault.Refused (refusals.BadFiles f)) = true
is_bad_files _ = false
