-- The refusals of texts, with and without names.
use Rattle.std.proofs.Common.{◌≡◌, ◌⊎◌, Bool, inl, inr, ap, refl, Ok, Err}
use Rattle.faults.specs.Bytes.{Text}
use Rattle.listing.specs.Listing.{Rules, tree_of}
use Rattle.listing.specs.Tree.{Tree}
use Rattle.listing.specs.declared.ListingFault.{ListingFault}
use Rattle.listing.specs.declared.ListingFault.TheVariants.{Memory as ListingMemory}
use Rattle.program_io.specs.Files.{RefusesAt, RefusesTexts}
use Rattle.program_io.specs.Listings.{IsDescribed, IsDescribedAt, RefusesListingAt, RefusesListingFile, listing_refusal, rules_for}
use Rattle.program_io.specs.Refusals.{memory_refusal}
use Rattle.program_io.specs.declared.refusal.Refusal.{Refusal}

-- ---- of two texts; the second one is about the tree that the first one describes

module _ (Asked : Text → Tree → Refusal → Type 0) (rules : Rules) (listing second : Text) where
  -- out of memory, or the refusal of the first
  pub first_refused : (e : ListingFault) → (e ≡ ListingMemory) ⊎ (tree_of rules listing ≡ Err e)
      → (listing_refusal e ≡ memory_refusal) ⊎ RefusesTexts rules listing (Asked second) (listing_refusal e)
  first_refused e (inl memory) = inl (ap listing_refusal memory)
  first_refused e (inr fault) = inr (inl (e, fault, refl))

  -- out of memory, or the refusal of the second
  pub second_refused : (tree : Tree) (r : Refusal) → tree_of rules listing ≡ Ok tree → (r ≡ memory_refusal) ⊎ Asked second tree r
      → (r ≡ memory_refusal) ⊎ RefusesTexts rules listing (Asked second) r
  second_refused tree r described (inl memory) = inl memory
  second_refused tree r described (inr refused) = inr (inr (tree, described, refused))

-- ---- of texts that were read by their names

module _ (Gave : Text → Text → Type 0) (name : Text) where
  -- the refusal of the listing that was read
  pub listing_read : (is_single : Bool) (listing : Text) → Gave name listing → (e : ListingFault) → (e ≡ ListingMemory) ⊎ (tree_of (rules_for is_single) listing ≡ Err e)
      → RefusesListingAt Gave name is_single (listing_refusal e)
  listing_read is_single listing gave e (inl memory) = inl (inl (ap listing_refusal memory))
  listing_read is_single listing gave e (inr fault) = inr (listing, gave, (e, fault, refl))

  -- whatever its name
  pub described : (is_single : Bool) (tree : Tree) → IsDescribedAt Gave name is_single tree → IsDescribed is_single tree
  described is_single tree (listing, gave, is) = (listing, is)

  pub refused : (is_single : Bool) (r : Refusal) → RefusesListingAt Gave name is_single r → RefusesListingFile is_single r
  refused is_single r (inl system) = inl system
  refused is_single r (inr (listing, gave, told)) = inr (listing, told)

  -- out of memory, or the refusal of the text that was read
  pub text_read : (RefusesText : Text → Refusal → Type 0) (text : Text) → Gave name text → (r : Refusal) → (r ≡ memory_refusal) ⊎ RefusesText text r
      → RefusesAt Gave name RefusesText r
  text_read RefusesText text gave r (inl memory) = inl (inl memory)
  text_read RefusesText text gave r (inr told) = inr (text, gave, told)
