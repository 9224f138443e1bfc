-- The members' weights, and how bad weights are reported.
use Rattle.std.specs.Prelude.{◌≡◌, ◌⊎◌, ℕ, List, ◌∷◌, Option, None, Some, flat_map, length, replicate}
use Rattle.std.specs.Fmt.{decimal}
use Rattle.faults.specs.Bytes.{Text}
use Rattle.program_io.specs.Refusals.{memory_refusal}
use Rattle.program_io.specs.declared.refusal.Refusal.{Refusal}

-- each weight in decimal, after a comma
abbrev pub with_commas : List ℕ → Text
with_commas = flat_map (λ w. 44 ∷ decimal w)

-- These are the weights of this many members: those in the text, by member, separated by commas, or
-- 1 each if no text is given.
abbrev pub AreTold : ℕ → Option Text → List ℕ → Type 0
AreTold members None weights = weights ≡ replicate members 1
AreTold members (Some text) weights =
    (length weights ≡ members) × (with_commas weights ≡ 44 ∷ text)

-- how bad weights are reported
abbrev pub weights_refusal : Refusal
weights_refusal = record { number = 801; place = None }

-- why there are no weights: memory ran out, or the text isn't a list of weights for this many
-- members
abbrev pub RefusesWeights : Refusal → Type 0
RefusesWeights r = (r ≡ memory_refusal) ⊎ (r ≡ weights_refusal)
