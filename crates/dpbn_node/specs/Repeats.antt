-- Repeated faults of turns.
use Rattle.std.specs.Prelude.{◌≡◌, ◌==◌, ◌++◌, ◌+◌, [], ◌∷◌, ℕ, Bool, List, All, filter, fold, if◌then◌else◌, length, map, min}
use Rattle.std.specs.List.{list_any}
use Rattle.program_io.specs.declared.refusal.Refusal.{Refusal}
use Rattle.dpbn_node.specs.declared.repeats.Repeated.{Repeated}

-- whether a fault has this number
abbrev pub has_number : ℕ → Refusal → Bool
has_number n fault = fault.number == n

-- whether a fault with this number is known
abbrev pub is_known : ℕ → List Repeated → Bool
is_known n known = list_any (λ k. has_number n k.first) known

-- this count, saturating
abbrev pub up_to_most : ℕ → ℕ
up_to_most n = min n 18446744073709551615

-- a known fault after one more with this number
abbrev pub once_more : ℕ → Repeated → Repeated
once_more n known =
    if has_number n known.first
    then record known { again = up_to_most (known.again + 1) }
    else known

-- What is known after one more fault: if its number is known, one more repeat is counted; otherwise
-- the fault is added.
abbrev pub noted : List Repeated → Refusal → List Repeated
noted known fault =
    if is_known fault.number known
    then map (once_more fault.number) known
    else known ++ record { first = fault; again = 0 } ∷ []

-- The known fault is the first of its number among these, and its count is the number of later ones
-- with that number.
abbrev pub IsCounted : List Refusal → Repeated → Type 0
IsCounted came known = (behind : List Refusal)
    × (filter (has_number known.first.number) came ≡ known.first ∷ behind)
    × (known.again ≡ up_to_most (length behind))

-- The numbers of these faults are known, and no others, and each is counted.
abbrev pub AreCounted : List Refusal → List Repeated → Type 0
AreCounted came known =
    ((n : ℕ) → is_known n known ≡ list_any (has_number n) came)
    × All (λ k. IsCounted came k) known

-- whatever the faults are, they are counted after all of them were noted in order
abbrev pub FaultsAreCounted : Type 0
FaultsAreCounted = (came : List Refusal) → AreCounted came (fold noted [] came)
