-- Counted faults.
use Rattle.std.proofs.Common.{◌≡◌, ◌∙◌, ◌++◌, ◌==◌, ◌||◌, ◌+◌, ℕ, Bool, true, false, zero, suc, List, [], ◌∷◌, ap, arith, append-nil, append_assoc, cond, eq-eqb, eqb-true, filter, fold, length, length-append, map, refl, subst, sym, slice_index_or}
use Rattle.std.proofs.lemmas.Grind.{common_steps}
use Rattle.std.proofs.lemmas.List.Elements.{All-append, All-map, filter-append}
use Rattle.std.proofs.lemmas.List.Folds.{list_any-append}
use Rattle.std.specs.List.{All, list_any}
use Rattle.dpbn_node.specs.Repeats.{AreCounted, IsCounted, has_number, is_known, noted, once_more, up_to_most}
use Rattle.program_io.specs.declared.refusal.Refusal.{Refusal}
use Rattle.dpbn_node.specs.declared.repeats.Repeated.{Repeated}

-- `||` with false on the right side
or_nothing : (b : Bool) → b ≡ (b || (false || false))
or_nothing true = refl
or_nothing false = refl

-- equality of numbers is symmetric
same_either_way : (a b : ℕ) → (a == b) ≡ (b == a)
same_either_way a b = grind (arith, common_steps)

-- if no element passes, none is left
filter_none : {X : Type 0} (p : X → Bool) (xs : List X) → list_any p xs ≡ false → filter p xs ≡ []
filter_none p [] none = refl
filter_none p (x ∷ xs) none = let more = filter_none p xs in grind (arith, more)

-- if no fault has the number, no count changes
once_more_none : (n : ℕ) (known : List Repeated) → is_known n known ≡ false → map (once_more n) known ≡ known
once_more_none n [] none = refl
once_more_none n (k ∷ known) none = let more = once_more_none n known in grind (arith, more)

-- the same numbers are known
once_more_known : (n m : ℕ) (known : List Repeated) → is_known m (map (once_more n) known) ≡ is_known m known
once_more_known n m [] = refl
once_more_known n m (k ∷ known) = let more = once_more_known n m known in grind (arith, more)

-- if a number is known, adding it changes no known number
known_at : (n m : ℕ) (known : List Repeated) → is_known n known ≡ true → (b : Bool) → (n == m) ≡ b → is_known m known ≡ (is_known m known || (b || false))
known_at n m known is true same =
    let here : is_known m known ≡ true = subst (λ x. is_known x known ≡ true) (eqb-true n m same) is in
    rw here refl
known_at n m known is false same = or_nothing (is_known m known)

-- one more fault with its number, or with another
counted_at : (came : List Refusal) (fault : Refusal) (k : Repeated) → IsCounted came k → (b : Bool) → (fault.number == k.first.number) ≡ b → IsCounted (came ++ fault ∷ []) (cond b (record k { again = up_to_most (k.again + 1) }) k)
counted_at came fault k it true same =
    let behind : List Refusal = it.0 in
    let longer : length (behind ++ fault ∷ []) ≡ length behind + 1 = length-append behind (fault ∷ []) in
    let counted : k.again ≡ up_to_most (length behind) = it.2 in (
      behind ++ fault ∷ [],
      filter-append (has_number k.first.number) came (fault ∷ [])
          ∙ ap (λ l. l ++ filter (has_number k.first.number) (fault ∷ [])) it.1
          ∙ ap (λ t. k.first ∷ (behind ++ cond t (fault ∷ []) [])) same,
      omega (arith, longer, counted),
    )
counted_at came fault k it false same =
    let behind : List Refusal = it.0 in (
      behind,
      filter-append (has_number k.first.number) came (fault ∷ [])
          ∙ ap (λ l. l ++ filter (has_number k.first.number) (fault ∷ [])) it.1
          ∙ ap (λ t. k.first ∷ (behind ++ cond t (fault ∷ []) [])) same
          ∙ ap (λ l. k.first ∷ l) (append-nil behind),
      it.2,
    )

-- so this holds by the test that counts
counted_once_more : (came : List Refusal) (fault : Refusal) (k : Repeated) → IsCounted came k → IsCounted (came ++ fault ∷ []) (once_more fault.number k)
counted_once_more came fault k it =
    subst (λ (b : Bool). IsCounted (came ++ fault ∷ []) (cond b (record k { again = up_to_most (k.again + 1) }) k))
    (same_either_way fault.number k.first.number) (counted_at came fault k it (fault.number == k.first.number) refl)

-- all known faults
all_once_more : (came : List Refusal) (known : List Repeated) (fault : Refusal) → All (λ k. IsCounted came k) known → All (λ k. IsCounted (came ++ fault ∷ []) k) (map (once_more fault.number) known)
all_once_more came known fault all =
    All-map (λ (k : Repeated). IsCounted (came ++ fault ∷ []) k) (once_more fault.number) known
    (λ k d below. counted_once_more came fault (slice_index_or known k d) (all k d below))

-- the first of its number
first_counted : (came : List Refusal) (fault : Refusal) → list_any (has_number fault.number) came ≡ false → IsCounted (came ++ fault ∷ []) (record { first = fault; again = 0 })
first_counted came fault none = (
  [],
  filter-append (has_number fault.number) came (fault ∷ [])
      ∙ ap (λ l. l ++ filter (has_number fault.number) (fault ∷ [])) (filter_none (has_number fault.number) came none)
      ∙ ap (λ t. cond t (fault ∷ []) []) (eq-eqb fault.number fault.number refl),
  refl,
)

-- what holds of an element holds of all of a list with only that one
alone : {X : Type 0} (P : X → Type 0) (x : X) → P x → All P (x ∷ [])
alone P x it zero d below = it
alone P x it (suc k) d below = absurd (omega arith)

-- a number that is known, or isn't
step_at : (came : List Refusal) (known : List Repeated) (fault : Refusal) → AreCounted came known → (b : Bool) → is_known fault.number known ≡ b → AreCounted (came ++ fault ∷ []) (cond b (map (once_more fault.number) known) (known ++ record { first = fault; again = 0 } ∷ []))
step_at came known fault it true is = (
  (λ n. once_more_known fault.number n known ∙ known_at fault.number n known is (fault.number == n) refl
      ∙ ap (λ b. b || ((fault.number == n) || false)) (it.0 n)
      ∙ sym (list_any-append (has_number n) came (fault ∷ []))),
  all_once_more came known fault it.1,
)
step_at came known fault it false is = (
  (λ n. list_any-append (λ (k : Repeated). has_number n k.first) known (record { first = fault; again = 0 } ∷ [])
      ∙ ap (λ b. b || ((fault.number == n) || false)) (it.0 n)
      ∙ sym (list_any-append (has_number n) came (fault ∷ []))),
  All-append (λ (k : Repeated). IsCounted (came ++ fault ∷ []) k) known (record { first = fault; again = 0 } ∷ [])
      (subst (λ l. All (λ k. IsCounted (came ++ fault ∷ []) k) l) (once_more_none fault.number known is) (all_once_more came known fault it.1))
      (alone (λ (k : Repeated). IsCounted (came ++ fault ∷ []) k) (record { first = fault; again = 0 })
      (first_counted came fault (sym (it.0 fault.number) ∙ is))),
)

-- so the faults are counted after one more is noted
counted_step : (came : List Refusal) (known : List Repeated) (fault : Refusal) → AreCounted came known → AreCounted (came ++ fault ∷ []) (noted known fault)
counted_step came known fault it = step_at came known fault it (is_known fault.number known) refl

-- and after more are noted
pub counted_on : (came more : List Refusal) (known : List Repeated) → AreCounted came known → AreCounted (came ++ more) (fold noted known more)
counted_on came [] known it = subst (λ c. AreCounted c known) (sym (append-nil came)) it
counted_on came (fault ∷ more) known it =
    subst (λ c. AreCounted c (fold noted (noted known fault) more)) (append_assoc came (fault ∷ []) more)
    (counted_on (came ++ fault ∷ []) more (noted known fault) (counted_step came known fault it))

-- and after all are noted
pub faults_are_counted : (came : List Refusal) → AreCounted came (fold noted [] came)
faults_are_counted came = counted_on [] came [] ((λ n. refl), (λ k d below. absurd (omega arith)))
