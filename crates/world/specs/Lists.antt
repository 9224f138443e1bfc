-- The agreed list: what an event adds to it.
use Rattle.std.specs.Prelude.{◌≡◌, ◌⊎◌, ◌++◌, Bool, true, false, List, if◌then◌else◌}
use Rattle.std.specs.List.{list_any}
use Rattle.std.specs.Str.{bytes_eq}
use Rattle.faults.specs.Bytes.{Text}
use Rattle.claims.specs.declared.claim.Claim.{Claim}
use Rattle.claims.specs.Quorums.{is_majority}
use Rattle.claims.specs.Claim.{IsClaim}
use Rattle.package_record.specs.Content.{Content}
use Rattle.protocol.specs.State.{Value}
use Rattle.world.specs.Sent.{WasProposed, voters}
use Rattle.world.specs.World.{World}

-- After the event a majority has sent votes for the unit's claim; before it, none had.
pub record IsDecided (w : World) (after : List Text) (name : Text) (c : Claim) : Type 0 where
  pub claim_is : IsClaim c
  pub now : is_majority w.weights (voters w after name c) ≡ true
  pub not_before : is_majority w.weights (voters w w.sent name c) ≡ false

-- Whether the list has a package with this path.
abbrev pub has_path : List Content → Text → Bool
has_path list path = list_any (λ r. bytes_eq r.path path) list

-- the list with the build's packages appended, ascending by path; unchanged if it already has one
-- of their paths
abbrev pub with_build : List Content → Value → List Content
with_build list build = if list_any (λ r. has_path list r.path) build then list else list ++ build

-- Some claim was decided by the event, and this build was proposed under it.
pub record IsDecidedFor (w : World) (after : List Text) (build : Value) : Type 0 where
  pub name : Text
  pub claim : Claim
  pub decided : IsDecided w after name claim
  pub proposed : WasProposed w after name claim build

-- The list after an event that left these datagrams sent: with the build of a claim that the event
-- decided appended, or unchanged if the event decided none.
abbrev pub IsListAfter : World → List Text → List Content → Type 0
IsListAfter w after list =
    ((build : Value) × IsDecidedFor w after build × (list ≡ with_build w.agreed build))
    ⊎ (((name : Text) (c : Claim) → ¬ IsDecided w after name c) × (list ≡ w.agreed))
