-- The refusals of a listing and of a second text, with and without file names.
use Rattle.std.specs.Prelude.{◌≡◌, ◌⊎◌, Bool, Ok}
use Rattle.faults.specs.Bytes.{Text}
use Rattle.listing.specs.Listing.{Rules, tree_of}
use Rattle.listing.specs.Tree.{Tree}
use Rattle.program_io.specs.Listings.{IsDescribedAt, RefusesListing, RefusesListingAt}
use Rattle.program_io.specs.Refusals.{IsSystemRefusal}
use Rattle.program_io.specs.declared.refusal.Refusal.{Refusal}

-- the refusal of a listing, or else of what is asked about its tree
abbrev pub RefusesTexts : Rules → Text → (Tree → Refusal → Type 0) → Refusal → Type 0
RefusesTexts rules listing RefusesAsked r =
    RefusesListing rules listing r
    ⊎ ((tree : Tree) × (tree_of rules listing ≡ Ok tree) × RefusesAsked tree r)

-- the text of this name can't be read, or this is the refusal of a text that was read from there
abbrev pub RefusesAt : (Text → Text → Type 0) → Text → (Text → Refusal → Type 0) → Refusal → Type 0
RefusesAt Gave name RefusesText r =
    IsSystemRefusal r ⊎ ((text : Text) × Gave name text × RefusesText text r)

-- the refusal of the listing with the first name, or else of the text with the second
abbrev pub RefusesBoth : (Text → Text → Type 0) → Bool → Text → Text
    → (Text → Tree → Refusal → Type 0) → Refusal → Type 0
RefusesBoth Gave is_single listing second RefusesAsked r =
    RefusesListingAt Gave listing is_single r
    ⊎ ((tree : Tree) × IsDescribedAt Gave listing is_single tree
    × RefusesAt Gave second (λ text. RefusesAsked text tree) r)
