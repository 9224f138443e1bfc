use Rattle.std.proofs.Common.{subst, sym}
use Rattle.faults.specs.Answers.{IsRightUnless}
use Rattle.listing.specs.Listing.{tree_of}
use Rattle.listing.specs.declared.ListingFault.TheVariants.{Memory}
use Rattle.program_io.specs.Listings.{rules_for}
use Rattle.program_io.proofs.tree.tree_of_text.Goals as goal

pub returns-then-is_single : goal.returns-then-is_single
returns-then-is_single c =
    subst (λ b. IsRightUnless Memory c.parse_single.result (tree_of (rules_for b) c.args.listing.now)) (sym c.if-is_single.true) c.parse_single.ensures

pub returns-else-is_single : goal.returns-else-is_single
returns-else-is_single c =
    subst (λ b. IsRightUnless Memory c.parse.result (tree_of (rules_for b) c.args.listing.now)) (sym c.if-is_single.false) c.parse.ensures
