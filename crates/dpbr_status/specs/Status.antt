-- What `dpbr status` prints.
use Rattle.std.specs.Prelude.{◌≡◌, ◌++◌, Bool, List, [], ◌∷◌, Ok, codes}
use Rattle.std.specs.List.{flat_map, zip}
use Rattle.engine.specs.State.{AreCounts, AreLetters, State, has_agreed}
use Rattle.engine.specs.declared.Counts.{Counts}
use Rattle.engine.specs.declared.Letter.{Letter}
use Rattle.engine.specs.declared.Letter.TheVariants.{T, Q, B, I, Ignored}
use Rattle.faults.specs.Bytes.{Text, line_feed}
use Rattle.listing.specs.Listing.{Rules, tree_of}
use Rattle.listing.specs.Tree.{Package, Tree}
use Rattle.dpbr_status.specs.Held.{AreHeld, IsFirstFault}
use Rattle.dpbr_status.specs.HeldRefusals.{held_refusal}
use Rattle.dpbr_status.specs.declared.held.HeldFault.{HeldFault}
use Rattle.program_io.specs.Files.{RefusesBoth, RefusesTexts}
use Rattle.program_io.specs.Listings.{IsDescribedAt}
use Rattle.program_io.specs.NodeLine.{counts_line}
use Rattle.program_io.specs.declared.refusal.Refusal.{Refusal}

-- the printed form of a letter
abbrev pub letter_text : Letter → Text
letter_text I = codes "I"
letter_text B = codes "B"
letter_text Q = codes "Q"
letter_text T = codes "T"
letter_text Ignored = codes "!"

-- a package's letter, path and name
abbrev pub package_line : Letter → Text → Text → Text
package_line letter path name =
    letter_text letter ++ codes " " ++ path ++ codes " " ++ name ++ line_feed ∷ []

-- the lines of the packages with these letters
abbrev pub package_lines : List Package → List Letter → Text
package_lines packages letters =
    flat_map (λ (x : Package × Letter). package_line x.1 x.0.path x.0.name) (zip packages letters)

-- a line for each package, in order, with its letter, and then the number of packages with each
-- letter
pub record IsStatusText (s : State) (text : Text) : Type 0 where
  pub letters : List Letter
  pub counts : Counts
  pub are_letters : AreLetters s letters
  pub are_counts : AreCounts s counts
  pub lines : text ≡ package_lines s.tree letters ++ counts_line counts

-- the status of a tree if the packages are held that the lines of a text name
pub record IsStatusOf (tree : Tree) (held text : Text) : Type 0 where
  pub state : State
  pub tree_is : state.tree ≡ tree
  pub are_held : AreHeld tree held (has_agreed state)
  pub status : IsStatusText state text

-- the status of the tree that a listing describes
pub record IsStatusOfListing (rules : Rules) (listing held text : Text) : Type 0 where
  pub tree : Tree
  pub described : tree_of rules listing ≡ Ok tree
  pub status : IsStatusOf tree held text

-- the status for a listing and a text of held package paths, if reads of these names gave both
pub record IsStatus (Gave : Text → Text → Type 0) (listing_name held_name : Text)
    (is_single : Bool) (text : Text) : Type 0 where
  pub tree : Tree
  pub described : IsDescribedAt Gave listing_name is_single tree
  pub held : Text
  pub from_held : Gave held_name held
  pub is_status : IsStatusOf tree held text

-- what is reported about the first fault of a text of held package paths
abbrev pub RefusesHeld : Text → Tree → Refusal → Type 0
RefusesHeld held tree r = (e : HeldFault) × IsFirstFault tree held e × (r ≡ held_refusal e)

-- what is reported about a listing, or else about a text of held package paths
abbrev pub RefusesStatus : Rules → Text → Text → Refusal → Type 0
RefusesStatus rules listing held r = RefusesTexts rules listing (RefusesHeld held) r

-- what is reported if one of the two files can't be read, or about the texts that reads of these
-- names gave
abbrev pub RefusesStatusFiles : (Text → Text → Type 0) → Text → Text → Bool → Refusal → Type 0
RefusesStatusFiles Gave listing held is_single r =
    RefusesBoth Gave is_single listing held RefusesHeld r
