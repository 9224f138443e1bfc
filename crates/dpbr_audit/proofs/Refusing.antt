-- What is reported about a list of packages.
use Rattle.std.proofs.Common.{◌≡◌, ◌⊎◌, inl, inr, ap, refl}
use Rattle.faults.specs.Bytes.{Text}
use Rattle.listing.specs.Tree.{Tree}
use Rattle.dpbr_audit.specs.Audit.{RefusesList}
use Rattle.package_lists.specs.List.{IsFirstBadLine}
use Rattle.package_lists.specs.ListRefusals.{list_refusal}
use Rattle.package_lists.specs.declared.list.ListFault.{ListFault}
use Rattle.package_lists.specs.declared.list.ListFault.TheVariants.{Memory}
use Rattle.program_io.specs.Refusals.{memory_refusal}

-- out of memory, or the first bad line
pub list_told : (list : Text) (tree : Tree) (e : ListFault) → (e ≡ Memory) ⊎ IsFirstBadLine list e
    → (list_refusal e ≡ memory_refusal) ⊎ RefusesList list tree (list_refusal e)
list_told list tree e (inl memory) = inl (ap list_refusal memory)
list_told list tree e (inr fault) = inr (e, fault, refl)
