-- What a node lacks of the agreed list, and which of that it shows as queued.
use Rattle.engine.specs.Division.{number_found, unit_at}
use Rattle.engine.specs.Letters.{CanBeBuilt}
use Rattle.engine.specs.State as engine
use Rattle.engine.specs.declared.Letter.TheVariants as letters
use Rattle.listing.specs.Tree.{Tree, path_at, position_of}
use Rattle.std.specs.Prelude.{◌≡◌, ◌++◌, ℕ, Bool, List, ◌∷◌, None, Some, All, Contains, slice_get}
use Rattle.package_record.specs.Content.{Content}
use Rattle.protocol.specs.State as protocol
use Rattle.protocol.specs.State.{OpenClaim, engine_of, facts_at}
use Rattle.world.specs.Headline.{holds}
use Rattle.world.specs.Lists.{has_path}
use Rattle.world.specs.World.{World, WorldNode, member_at}

-- ---- what is claimed

-- A unit for which a node has an open claim is queued there: the unit isn't held, and all that its
-- build needs is installable.
abbrev pub ClaimedIsQueued : World → Type 0
ClaimedIsQueued w =
    (k : ℕ) (x : WorldNode) (o : OpenClaim) → slice_get w.nodes k ≡ Some x → x.claim ≡ Some o
    → protocol.HasLetter (member_at w k x) o.unit letters.Q

-- ---- the order of the list

-- Whether the list has the package at the position.
abbrev pub stands_in : Tree → List Content → ℕ → Bool
stands_in tree list p = has_path list (path_at tree p)

-- The package's unit could be built by a node that holds exactly what the list has: all that the
-- build needs is installable then.
pub record IsReadyOn (tree : Tree) (list : List Content) (r : Content) : Type 0 where
  pub position : ℕ
  pub of_package : position_of tree r.path ≡ Some position
  pub can : CanBeBuilt tree (stands_in tree list) position

-- Each package of the list comes after all that its unit's build needs, and after all that these
-- need to run.
abbrev pub StandsBehindItsNeeds : World → Type 0
StandsBehindItsNeeds w =
    (before : List Content) (r : Content) (behind : List Content)
    → w.agreed ≡ before ++ r ∷ behind
    → IsReadyOn w.division.tree before r

-- ---- what a node lacks

-- Node k holds the package, as its notes restore it, up or down.
abbrev pub Holds : World → ℕ → WorldNode → Content → Type 0
Holds w k x r = holds w k x r.path ≡ Some r

-- Node k shows the package as queued: nothing of its unit is held there, and each package of the
-- unit has the letter Q. A question by the package's path asks for this unit.
pub record IsQueuedAt (w : World) (k : ℕ) (x : WorldNode) (r : Content) : Type 0 where
  pub position : ℕ
  pub of_package : position_of w.division.tree r.path ≡ Some position
  pub unit : ℕ
  pub in_unit : Contains (unit_at w.division unit).packages position
  pub found : number_found w.division r.path ≡ Some unit
  pub not_held : (facts_at (member_at w k x) unit).held ≡ None
  pub letters : All (λ p. engine.HasLetter (engine_of (member_at w k x)) p letters.Q)
      (unit_at w.division unit).packages

-- If a node holds everything before a package in the list, but not that package, it shows the
-- package as queued.
abbrev pub FirstMissingIsQueued : World → Type 0
FirstMissingIsQueued w =
    (k : ℕ) (x : WorldNode) (before : List Content) (r : Content) (behind : List Content)
    → slice_get w.nodes k ≡ Some x → w.agreed ≡ before ++ r ∷ behind
    → All (Holds w k x) before → ¬ Holds w k x r
    → IsQueuedAt w k x r

-- The package is in the list, and node k lacks it and shows it as queued.
pub record IsMissingAndQueued (w : World) (k : ℕ) (x : WorldNode) (r : Content) : Type 0 where
  pub listed : Contains w.agreed r
  pub lacks : ¬ Holds w k x r
  pub queued : IsQueuedAt w k x r

-- So if a node lacks any package of the list, it lacks one that it shows as queued.
abbrev pub WhatIsMissingIsQueued : World → Type 0
WhatIsMissingIsQueued w =
    (k : ℕ) (x : WorldNode) (r : Content) → slice_get w.nodes k ≡ Some x → Contains w.agreed r
    → ¬ Holds w k x r
    → (q : Content) × IsMissingAndQueued w k x q
