-- What is reported about a text of held package paths.
use Rattle.std.proofs.Common.{◌≡◌, ◌⊎◌, inl, inr, ap, refl}
use Rattle.faults.specs.Bytes.{Text}
use Rattle.listing.specs.Tree.{Tree}
use Rattle.dpbr_status.specs.Held.{IsFirstFault}
use Rattle.dpbr_status.specs.HeldRefusals.{held_refusal}
use Rattle.dpbr_status.specs.Status.{RefusesHeld}
use Rattle.dpbr_status.specs.declared.held.HeldFault.{HeldFault}
use Rattle.dpbr_status.specs.declared.held.HeldFault.TheVariants.{Memory}
use Rattle.program_io.specs.Refusals.{memory_refusal}

-- out of memory, or the first fault
pub held_told : (held : Text) (tree : Tree) (e : HeldFault) → (e ≡ Memory) ⊎ IsFirstFault tree held e
    → (held_refusal e ≡ memory_refusal) ⊎ RefusesHeld held tree (held_refusal e)
held_told held tree e (inl memory) = inl (ap held_refusal memory)
held_told held tree e (inr fault) = inr (e, fault, refl)
