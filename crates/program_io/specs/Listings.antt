-- The tree that a program parses from a listing, and the refusals of a malformed one.
use Rattle.std.specs.Prelude.{◌≡◌, ◌⊎◌, Bool, Ok, Err}
use Rattle.faults.specs.Bytes.{Text}
use Rattle.listing.specs.Listing.{Rules, tree_of}
use Rattle.listing.specs.Refusals as listings
use Rattle.listing.specs.Rules.{group_by, with_groups}
use Rattle.listing.specs.Tree.{Tree}
use Rattle.listing.specs.declared.ListingFault.{ListingFault}
use Rattle.program_io.specs.Refusals.{IsSystemRefusal}
use Rattle.program_io.specs.declared.refusal.Refusal.{Refusal}

-- the rules for packages' names and specs; each path is a group of its own, or not
abbrev pub rules_for : Bool → Rules
rules_for is_single = with_groups (group_by is_single)

-- a listing describes the tree; each path is a group of its own, or not
abbrev pub IsDescribed : Bool → Tree → Type 0
IsDescribed is_single tree = (listing : Text) × (tree_of (rules_for is_single) listing ≡ Ok tree)

-- a listing that was read from this name describes the tree
abbrev pub IsDescribedAt : (Text → Text → Type 0) → Text → Bool → Tree → Type 0
IsDescribedAt Gave name is_single tree =
    (listing : Text) × Gave name listing × (tree_of (rules_for is_single) listing ≡ Ok tree)

-- the refusal for a fault of a listing
abbrev pub listing_refusal : ListingFault → Refusal
listing_refusal e = record { number = listings.number_of e; place = listings.place_of e }

-- the listing describes no tree, and this is the refusal for its fault
abbrev pub RefusesListing : Rules → Text → Refusal → Type 0
RefusesListing rules listing r =
    (e : ListingFault) × (tree_of rules listing ≡ Err e) × (r ≡ listing_refusal e)

-- the file of a listing can't be read, or this is the refusal of the listing
abbrev pub RefusesListingFile : Bool → Refusal → Type 0
RefusesListingFile is_single r =
    IsSystemRefusal r ⊎ ((listing : Text) × RefusesListing (rules_for is_single) listing r)

-- the listing of this name can't be read, or this is the refusal of a text that was read from there
abbrev pub RefusesListingAt : (Text → Text → Type 0) → Text → Bool → Refusal → Type 0
RefusesListingAt Gave name is_single r =
    IsSystemRefusal r
    ⊎ ((listing : Text) × Gave name listing × RefusesListing (rules_for is_single) listing r)
