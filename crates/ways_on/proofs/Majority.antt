-- Members that together become a majority, one after another.
use Rattle.std.proofs.Common.{◌≡◌, ℕ, Bool, true, false, List, [], ◌∷◌, refl, sym, ◌∙◌, subst}
use Rattle.std.proofs.lemmas.Bool.{cond-true, cond-false, true≢false}
use Rattle.claims.specs.Quorums.{Members, is_majority, with_member}
use Rattle.ways_on.specs.inside.Listed.{until_majority}

-- The last of these completes a majority with those of S, and none before it does.
abbrev pub MakeMajority : List ℕ → Members → List ℕ → Type 0
MakeMajority weights S [] = ⊥
MakeMajority weights S (k ∷ []) = is_majority weights (with_member S k) ≡ true
MakeMajority weights S (k ∷ l ∷ ks) =
    (is_majority weights (with_member S k) ≡ false)
    × MakeMajority weights (with_member S k) (l ∷ ks)

-- the members of S and of the list
abbrev pub joined_by : Members → List ℕ → Members
joined_by S [] = S
joined_by S (k ∷ ks) = joined_by (with_member S k) ks

-- If S is not a majority, but becomes one with the list, some shortest prefix of the list completes
-- it.
pub until_is_enough : (weights : List ℕ) (S : Members) (ks : List ℕ)
    → is_majority weights S ≡ false → is_majority weights (joined_by S ks) ≡ true
    → MakeMajority weights S (until_majority weights S ks)
until_is_enough weights S [] none all = absurd (true≢false (sym all ∙ none))
until_is_enough weights S (k ∷ ks) none all =
    reaches (is_majority weights (with_member S k)) refl
    (λ off. until_is_enough weights (with_member S k) ks off all)
  where
    rest : List ℕ
    rest = until_majority weights (with_member S k) ks

    more : (l : List ℕ) → is_majority weights (with_member S k) ≡ false
        → MakeMajority weights (with_member S k) l → MakeMajority weights S (k ∷ l)
    more [] off h = absurd h
    more (j ∷ js) off h = (off, h)

    reaches : (b : Bool) → is_majority weights (with_member S k) ≡ b
        → (is_majority weights (with_member S k) ≡ false
        → MakeMajority weights (with_member S k) rest)
        → MakeMajority weights S (until_majority weights S (k ∷ ks))
    reaches true e then = subst (λ (l : List ℕ). MakeMajority weights S (k ∷ l))
        (sym (cond-true (is_majority weights (with_member S k)) [] rest e)) e
    reaches false e then = subst (λ (l : List ℕ). MakeMajority weights S (k ∷ l))
        (sym (cond-false (is_majority weights (with_member S k)) [] rest e))
        (more rest e (then e))
