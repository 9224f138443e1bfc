-- The next package to ask for.
use Rattle.std.proofs.Common.{◌≡◌, ◌<◌, ◌≤◌, ◌+◌, ◌∙◌, ℕ, true, false, None, Some, length, sym, inl, inr, arith, subst}
use Rattle.std.proofs.lemmas.Bool.{cases_lt, cases_eq}
use Rattle.turn_rules.specs.Own.{Barred, IsFree, is_barred}
use Rattle.engine.specs.Division.{number_of}
use Rattle.engine.specs.State.{IsQueuedFrom}
use Rattle.protocol.specs.State.{State, engine_of}

module _ (s : State) (barred : Barred) (from : ℕ) where
  -- none from the first position on and before this one is free
  abbrev pub NoneFreeUntil : ℕ → Type 0
  NoneFreeUntil at = (k : ℕ) → from ≤ k → k < at → IsFree s barred k → ⊥

  pub none_at_first : NoneFreeUntil from
  none_at_first k behind below free = absurd (omega (arith, behind, below))

  -- the next queued one is barred
  pub none_further : (at p : ℕ) → NoneFreeUntil at → IsQueuedFrom (engine_of s) at (Some p)
      → is_barred barred (number_of s.division p) ≡ true → NoneFreeUntil (p + 1)
  none_further at p none queued bars k behind below free = elim (cases_lt k at) [
    | inl before ↦ none k behind before free
    | inr after ↦ elim (cases_eq k p) [
      | inl same ↦
          let no : true ≡ false =
          sym (subst (λ q. is_barred barred (number_of s.division q) ≡ true) (sym same) bars)
          ∙ free.1 in cc
      | inr other ↦ queued.3 k after (omega (arith, below, other)) free.0
    ]
  ]

  -- none before the next queued one is free
  pub none_before : (at p : ℕ) → NoneFreeUntil at → IsQueuedFrom (engine_of s) at (Some p)
      → (k : ℕ) → from ≤ k → k < p → IsFree s barred k → ⊥
  none_before at p none queued k behind below is = elim (cases_lt k at) [
    | inl before ↦ none k behind before is
    | inr after ↦ queued.3 k after below is.0
  ]

  -- none is queued any more
  pub none_queued : (at : ℕ) → NoneFreeUntil at → IsQueuedFrom (engine_of s) at None
      → (p : ℕ) → p < length s.division.tree → from ≤ p → IsFree s barred p → ⊥
  none_queued at none queued p below behind is = elim (cases_lt p at) [
    | inl before ↦ none p behind before is
    | inr after ↦ queued p after below is.0
  ]

  -- all were looked at
  pub none_left : (at : ℕ) → NoneFreeUntil at → length s.division.tree ≤ at
      → (p : ℕ) → p < length s.division.tree → from ≤ p → IsFree s barred p → ⊥
  none_left at none past p below behind is = none p behind (omega (arith, below, past)) is
