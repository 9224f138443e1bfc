-- The number of positions that meet a condition.
use Rattle.std.specs.Prelude.{◌≡◌, ◌⊎◌, ℕ, zero, suc}

-- exactly m of the positions below n meet the condition
abbrev pub AreSoMany : (ℕ → Type 0) → ℕ → ℕ → Type 0
AreSoMany P zero m = m ≡ 0
AreSoMany P (suc n) m =
    (P n × ((k : ℕ) × AreSoMany P n k × (m ≡ suc k))) ⊎ (¬ P n × AreSoMany P n m)
