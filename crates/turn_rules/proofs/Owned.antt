-- The least package that may be claimed.
use Rattle.std.proofs.Common.{◌≡◌, ◌<◌, ◌≤◌, ◌+◌, ℕ, true, false, None, Some, length, sym, ◌∙◌, inl, inr, arith, subst}
use Rattle.std.proofs.lemmas.Bool.{cases_lt, cases_eq}
use Rattle.turn_rules.specs.Own.{Barred, IsFree, IsLeastFree, is_barred}
use Rattle.engine.specs.State.{IsQueuedFrom}
use Rattle.protocol.specs.State.{State, engine_of}
use Rattle.engine.specs.Division.{number_of}

module _ (s : State) (barred : Barred) where
  -- no position before this one is free
  abbrev pub NoneFreeBefore : ℕ → Type 0
  NoneFreeBefore from = (k : ℕ) → k < from → IsFree s barred k → ⊥

  pub none_at_first : NoneFreeBefore 0
  none_at_first k below free = absurd (omega (arith, below))

  -- the next queued package is barred
  pub none_further : (from p : ℕ) → NoneFreeBefore from → IsQueuedFrom (engine_of s) from (Some p)
      → is_barred barred (number_of s.division p) ≡ true → NoneFreeBefore (p + 1)
  none_further from p none queued bars k below free = elim (cases_lt k from) [
    | inl before ↦ none k before free
    | inr behind ↦ elim (cases_eq k p) [
      | inl same ↦
          let no : true ≡ false =
          sym (subst (λ q. is_barred barred (number_of s.division q) ≡ true) (sym same) bars)
          ∙ free.1 in cc
      | inr other ↦ queued.3 k behind (omega (arith, below, other)) free.0
    ]
  ]

  -- the next queued package is free
  pub found_free : (from p : ℕ) → NoneFreeBefore from → IsQueuedFrom (engine_of s) from (Some p)
      → is_barred barred (number_of s.division p) ≡ false → IsLeastFree s barred (Some p)
  found_free from p none queued free = (
    queued.1,
    (queued.2, free),
    λ k below is. elim (cases_lt k from) [
      | inl before ↦ none k before is
      | inr behind ↦ queued.3 k behind below is.0
    ],
  )

  -- no more packages are queued
  pub none_free : (from : ℕ) → NoneFreeBefore from → IsQueuedFrom (engine_of s) from None
      → IsLeastFree s barred None
  none_free from none queued p below is = elim (cases_lt p from) [
    | inl before ↦ none p before is
    | inr behind ↦ queued p behind below is.0
  ]

  -- all positions were searched
  pub none_left : (from : ℕ) → NoneFreeBefore from → length s.division.tree ≤ from
      → IsLeastFree s barred None
  none_left from none past p below is = none p (omega (arith, below, past)) is
