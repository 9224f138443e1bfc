-- There is a choice.
use Rattle.std.proofs.Common.{◌≡◌, ◌<◌, ◌⊎◌, ℕ, zero, suc, List, [], ◌∷◌, Option, None, Some, length, refl, sym, subst, ◌∙◌, inl, inr, arith}
use Rattle.std.specs.Prelude.{option_map}
use Rattle.std.proofs.lemmas.Bool.{cases_Bool, cases_eq, true≢false}
use Rattle.engine.proofs.OneLetter.{only_one_letter}
use Rattle.engine.proofs.SomeLetter.{some_letter}
use Rattle.engine.specs.State as engine
use Rattle.engine.specs.declared.Letter.{Letter}
use Rattle.engine.specs.declared.Letter.TheVariants as letters
use Rattle.faults.specs.Answers.{option_or}
use Rattle.protocol.specs.Member.{IsMember}
use Rattle.protocol.specs.State.{OpenClaim, State, engine_of}
use Rattle.protocol.specs.declared.input.Input.{Input}
use Rattle.node.specs.Step.{Does}
use Rattle.engine.specs.Division.{number_of}
use Rattle.turn_rules.specs.Choice.{Chosen, Here, IsDoneBy, IsDoneIf, IsFirstDone, IsGivenOr, Who, barred_at, comes_to, first_answer, in_turn}
use Rattle.turn_rules.specs.Laws.{SomeChoice}
use Rattle.turn_rules.specs.Own.{Barred, IsFree, IsLeastFree, IsOwnBy, claim_of, is_barred, renewed}
use Rattle.turn_rules.specs.Pending.{Pending, above_at}
use Rattle.turn_rules.specs.Scheduled.{scheduled}
use Rattle.turn_rules.specs.declared.initiative.Initiative.{Initiative}
use Rattle.turn_rules.specs.declared.initiative.Initiative.TheVariants.{Own, Scheduled}

-- ---- the least position with a decidable property

module _ (P : ℕ → Type 0) (each : (n : ℕ) → P n ⊎ (P n → ⊥)) where
  -- either no position below n has it, or there is a least one that does
  least_below : (n : ℕ) → ((q : ℕ) → q < n → P q → ⊥)
      ⊎ ((q : ℕ) × (q < n) × P q × ((k : ℕ) → k < q → P k → ⊥))
  least_below zero = inl (λ q below. absurd (omega arith))
  least_below (suc n) = elim (least_below n) [
    | inr (q, below, meets, least) ↦ inr (q, omega (arith, below), meets, least)
    | inl none ↦ elim (each n) [
      | inl meets ↦ inr (n, omega arith, meets, none)
      | inr fails ↦ inl (λ q below. elim (cases_eq q n) [
        | inl same ↦ subst (λ k. P k → ⊥) (sym same) fails
        | inr before ↦ none q (omega (arith, below, before))
      ])
    ]
  ]

-- ---- what is free

is_queued : (l : Letter) → (l ≡ letters.Q) ⊎ (l ≡ letters.Q → ⊥)
is_queued letters.Q = inl refl
is_queued letters.T = inr (λ e. let no : letters.T ≡ letters.Q = e in cc)
is_queued letters.B = inr (λ e. let no : letters.B ≡ letters.Q = e in cc)
is_queued letters.I = inr (λ e. let no : letters.I ≡ letters.Q = e in cc)
is_queued letters.Ignored = inr (λ e. let no : letters.Ignored ≡ letters.Q = e in cc)

module _ (s : State) (is : IsMember s) (barred : Barred) where
  queued_or_not : (p : ℕ) → engine.HasLetter (engine_of s) p letters.Q
      ⊎ (engine.HasLetter (engine_of s) p letters.Q → ⊥)
  queued_or_not p =
      let found = some_letter s.division.tree s.division.units (engine.has_agreed (engine_of s)) p is.division.units in
      elim (is_queued found.0) [
        | inl same ↦ inl (subst (λ l. engine.HasLetter (engine_of s) p l) same found.1)
        | inr other ↦ inr (λ has. other (only_one_letter s.division.tree (engine.has_agreed (engine_of s)) p found.0 letters.Q found.1 has))
      ]

  free_or_not : (p : ℕ) → IsFree s barred p ⊎ (IsFree s barred p → ⊥)
  free_or_not p = elim (queued_or_not p) [
    | inr other ↦ inr (λ free. other free.0)
    | inl has ↦ elim (cases_Bool (is_barred barred (number_of s.division p))) [
      | inl is_so ↦ inr (λ free. true≢false (sym is_so ∙ free.1))
      | inr not_so ↦ inl (has, not_so)
    ]
  ]

  some_least : (least : Option ℕ) × IsLeastFree s barred least
  some_least = elim (least_below (IsFree s barred) free_or_not (length s.division.tree)) [
    | inl none ↦ (None, none)
    | inr (p, below, free, least) ↦ (Some p, (below, free, least))
  ]

pub some_own_by : (s : State) → IsMember s → (o : Option OpenClaim) (above : Option ℕ) (barred : Barred)
    → (own : Option Input) × IsOwnBy s o above barred own
some_own_by s is None above barred =
    let least = some_least s is barred in
    (option_map (claim_of s) least.0, (least.0, least.1, refl))
some_own_by s is (Some o) above barred = (Some (renewed s o above), refl)

some_done_by : (i : Initiative) (s : State) → IsMember s → (above : Option ℕ) (barred : Barred)
    → (done : Option Input) × IsDoneBy i s above barred done
some_done_by Own s is above barred = some_own_by s is s.claim above barred
some_done_by (Scheduled wish) s is above barred = (scheduled wish above s, refl)

-- ---- the choice

module _ (here : Here) (count : ℕ) (p : Pending) (who : Who)
    (are : (k : ℕ) (s : State) → here k ≡ Some s → IsMember s) where
  some_done : (k : ℕ) (o : Option State) → here k ≡ o
      → (done : Option Input) × IsDoneIf here count p who k o done
  some_done k None at = (None, refl)
  some_done k (Some s) at =
      some_done_by (who k) s (are k s at) (above_at p k) (barred_at here count p k)

  later_or_now : (k : ℕ) (ks : List ℕ)
      → ((done : Option Input) × IsDoneIf here count p who k (here k) done)
      → ((chosen : Chosen) × IsFirstDone here count p who ks chosen)
      → (chosen : Chosen) × IsFirstDone here count p who (k ∷ ks) chosen
  later_or_now k ks (None, is) later = (later.0, (None, is, later.1))
  later_or_now k ks (Some input, is) later = (Some (k, Does input), (Some input, is, refl))

  some_first : (ks : List ℕ) → (chosen : Chosen) × IsFirstDone here count p who ks chosen
  some_first [] = (None, refl)
  some_first (k ∷ ks) = later_or_now k ks (some_done k (here k) refl) (some_first ks)

pub some_choice : SomeChoice
some_choice here count p made who came are =
    by (option_or (first_answer here count made) (comes_to here came))
  where
    by : (g : Chosen) → (chosen : Chosen)
        × IsGivenOr g chosen (IsFirstDone here count p who (in_turn p.next count) chosen)
    by None = some_first here count p who are (in_turn p.next count)
    by (Some x) = (Some x, refl)
