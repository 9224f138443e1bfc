-- How many weights the arguments give.
use Rattle.std.proofs.Common.{◌≡◌, ◌∙◌, ℕ, List, Option, None, Some, length, ap}
use Rattle.std.proofs.lemmas.List.{length-replicate}
use Rattle.dpbn_node.specs.Given.{AreTold}
use Rattle.faults.specs.Bytes.{Text}

-- as many as are asked for
pub told_len : (members : ℕ) (told : Option Text) (weights : List ℕ) → AreTold members told weights
    → length weights ≡ members
told_len members None weights are = ap length are ∙ length-replicate members 1
told_len members (Some text) weights are = are.0
