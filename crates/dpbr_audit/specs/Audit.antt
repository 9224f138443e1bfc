-- What `dpbr audit` prints.
use Rattle.std.specs.Prelude.{◌≡◌, ◌++◌, ℕ, Bool, List, [], ◌∷◌, Ok, codes}
use Rattle.std.specs.Fmt.{decimal}
use Rattle.auditing.specs.Verdicts.{IsVerdict}
use Rattle.auditing.specs.declared.entry.Entry.{Entry}
use Rattle.auditing.specs.declared.verdict.Reason.{Reason}
use Rattle.auditing.specs.declared.verdict.Reason.TheVariants.{Unlisted, Ignored, OtherName, PathTwice, OtherDependencies, DependencyNotEarlier}
use Rattle.auditing.specs.declared.verdict.Verdict.{Verdict}
use Rattle.auditing.specs.declared.verdict.Verdict.TheVariants.{Yes, No}
use Rattle.faults.specs.Bytes.{Text, line_feed}
use Rattle.listing.specs.Listing.{Rules, tree_of}
use Rattle.listing.specs.Tree.{Tree}
use Rattle.package_lists.specs.List.{AreEntries, IsFirstBadLine}
use Rattle.package_lists.specs.ListRefusals.{list_refusal}
use Rattle.package_lists.specs.declared.list.ListFault.{ListFault}
use Rattle.program_io.specs.Files.{RefusesBoth, RefusesTexts}
use Rattle.program_io.specs.Listings.{IsDescribedAt}
use Rattle.program_io.specs.declared.refusal.Refusal.{Refusal}

-- the words for why a package is not allowed
abbrev pub reason_text : Reason → Text
reason_text Unlisted = codes "unlisted"
reason_text Ignored = codes "ignored"
reason_text OtherName = codes "other name"
reason_text PathTwice = codes "path twice"
reason_text OtherDependencies = codes "other dependencies"
reason_text DependencyNotEarlier = codes "dependency not earlier"

-- the line which says that the package with this number is not allowed, and why
abbrev pub no_line : ℕ → Text → Text
no_line number reason =
    codes "no: package " ++ decimal number ++ codes ": " ++ reason ++ line_feed ∷ []

-- the verdict, as a line
abbrev pub verdict_line : Verdict → Text
verdict_line Yes = codes "yes" ++ line_feed ∷ []
verdict_line (No number reason) = no_line number (reason_text reason)

-- the exit status after a verdict
abbrev pub status_of : Verdict → ℕ
status_of Yes = 0
status_of (No number reason) = 3

-- the verdict on the packages of a list
pub record IsVerdictOn (tree : Tree) (list : Text) (verdict : Verdict) : Type 0 where
  pub entries : List Entry
  pub are_entries : AreEntries list entries
  pub is_verdict : IsVerdict tree entries verdict

-- the verdict on a list for the tree that a listing describes
pub record IsVerdictOnListing (rules : Rules) (listing list : Text)
    (verdict : Verdict) : Type 0 where
  pub tree : Tree
  pub described : tree_of rules listing ≡ Ok tree
  pub is_verdict : IsVerdictOn tree list verdict

-- the verdict on a list of packages as text, and its status
pub record IsAuditOf (tree : Tree) (list : Text) (status : ℕ) (text : Text) : Type 0 where
  pub verdict : Verdict
  pub is_verdict : IsVerdictOn tree list verdict
  pub text_is : text ≡ verdict_line verdict
  pub status_is : status ≡ status_of verdict

-- the verdict and its status for a listing and a list, if reads of these names gave both
pub record IsAudit (Gave : Text → Text → Type 0) (listing_name list_name : Text)
    (is_single : Bool) (status : ℕ) (text : Text) : Type 0 where
  pub tree : Tree
  pub described : IsDescribedAt Gave listing_name is_single tree
  pub list : Text
  pub from_list : Gave list_name list
  pub is_audit : IsAuditOf tree list status text

-- what is reported about the first bad line of a list of packages, whatever the tree
abbrev pub RefusesList : Text → Tree → Refusal → Type 0
RefusesList list tree r = (e : ListFault) × IsFirstBadLine list e × (r ≡ list_refusal e)

-- what is reported about a listing, or else about a list of packages
abbrev pub RefusesAudit : Rules → Text → Text → Refusal → Type 0
RefusesAudit rules listing list r = RefusesTexts rules listing (RefusesList list) r

-- what is reported if one of the two files can't be read, or about the texts that reads of these
-- names gave
abbrev pub RefusesAuditFiles : (Text → Text → Type 0) → Text → Text → Bool → Refusal → Type 0
RefusesAuditFiles Gave listing list is_single r =
    RefusesBoth Gave is_single listing list RefusesList r
