-- Only one node is here.
use Rattle.std.proofs.Common.{◌≡◌, ◌<◌, ◌+◌, ◌==◌, ◌&&◌, ◌||◌, ℕ, Bool, true, false, not, List, [], ◌∷◌, Option, None, Some, drop, take, if◌then◌else◌, refl, sym, ap, subst, ◌∙◌, arith, eq-eqb, eqb-true}
use Rattle.std.proofs.lemmas.List.{take-append-drop}
use Rattle.std.proofs.lemmas.List.Folds.{list_any-append, list_any_at}
use Rattle.std.proofs.lemmas.List.FromFn.{get_or-range_with_len, length-range_with_len}
use Rattle.std.specs.List.{list_any, range_with_len}
use Rattle.std.specs.Prelude.{option_and_then}
use Rattle.turn_rules.specs.Choice.{IsDoneBy, IsDoneIf, IsFirstDone, Who, barred_at, in_turn, is_for}
use Rattle.turn_rules.specs.Pending.{Pending, above_at, has_failed}
use Rattle.turn_rules.specs.declared.initiative.Initiative.{Initiative}
use Rattle.node.specs.State.{NodeState}
use Rattle.node.specs.Step.{Does}
use Rattle.protocol.specs.declared.input.Input.{Input}
use Rattle.lone_node.specs.State.{member_up, only}

-- ---- ranges of numbers

-- Whether the number is among these.
abbrev pub is_in : ℕ → List ℕ → Bool
is_in me ks = list_any (λ k. k == me) ks

-- a number below the count is in the range
pub in_range : (me count : ℕ) → me < count → is_in me (range_with_len 0 count) ≡ true
in_range me count below =
    list_any_at (λ k. k == me) (range_with_len 0 count) me 0
    (omega (arith, below, length-range_with_len 0 count))
    (ap (λ k. k == me) (get_or-range_with_len 0 count me 0 below)
    ∙ eq-eqb (0 + me) me (omega arith))

-- `||` in another order
or_flip : (a b : Bool) → (a || b) ≡ true → (b || a) ≡ true
or_flip true true e = refl
or_flip true false e = refl
or_flip false true e = refl
or_flip false false e = e

-- a number below the count is in the range in turn
pub in_turns : (me next count : ℕ) → me < count → is_in me (in_turn next count) ≡ true
in_turns me next count below =
    list_any-append (λ k. k == me) (drop next (range_with_len 0 count))
    (take next (range_with_len 0 count))
    ∙ or_flip (is_in me (take next (range_with_len 0 count)))
    (is_in me (drop next (range_with_len 0 count)))
    (sym (list_any-append (λ k. k == me) (take next (range_with_len 0 count))
    (drop next (range_with_len 0 count)))
    ∙ (ap (is_in me) (take-append-drop next (range_with_len 0 count))
    ∙ in_range me count below))

module _ (n : NodeState) where
  -- the node's number
  abbrev me : ℕ
  me = n.member.me

  -- ---- what it does on its initiative

  -- no unit is claimed elsewhere
  pub nothing_elsewhere : (u : ℕ) (ks : List ℕ)
      → list_any (λ j. not (j == me) && is_for u (option_and_then (λ s. s.claim) (only n j))) ks
      ≡ false
  nothing_elsewhere u [] = refl
  nothing_elsewhere u (j ∷ js) = ap (λ b. b || list_any
      (λ j. not (j == me) && is_for u (option_and_then (λ s. s.claim) (only n j))) js)
      (by (j == me)) ∙ nothing_elsewhere u js
    where
      by : (b : Bool) → (not b && is_for u
          (option_and_then (λ s. s.claim) (if b then member_up n else None))) ≡ false
      by true = refl
      by false = refl

  -- what the member does if only units with failed builds are barred
  done_is : (count : ℕ) (p : Pending) (i : Initiative) (done : Option Input)
      → IsDoneBy i n.member (above_at p me) (λ u. has_failed p u || false) done
      → IsDoneBy i n.member (above_at p me) (barred_at (only n) count p me) done
  done_is count p i done is = subst (λ barred. IsDoneBy i n.member (above_at p me) barred done)
      (λ t u. has_failed p u || sym (nothing_elsewhere u (range_with_len 0 count)) t) is

  module _ (count : ℕ) (p : Pending) (who : Who) where
    -- what the node does, if it is up
    pub does_is : (done : Option Input) → n.stopped ≡ false
        → IsDoneBy (who me) n.member (above_at p me) (λ u. has_failed p u || false) done
        → IsDoneIf (only n) count p who me (member_up n) done
    does_is done up is = subst
        (λ b. IsDoneIf (only n) count p who me (if b then None else Some n.member) done) (sym up)
        (done_is count p (who me) done is)

    -- another node does nothing
    other_does : (k : ℕ) → (k == me) ≡ false → IsDoneIf (only n) count p who k (only n k) None
    other_does k other =
        subst (λ b. IsDoneIf (only n) count p who k (if b then member_up n else None) None)
        (sym other) refl

    this_does : (k : ℕ) (done : Option Input) → (k == me) ≡ true
        → IsDoneIf (only n) count p who me (member_up n) done
        → IsDoneIf (only n) count p who k (only n k) done
    this_does k done this is =
        subst (λ b. IsDoneIf (only n) count p who k (if b then member_up n else None) done)
        (sym this)
        (subst (λ j. IsDoneIf (only n) count p who j (member_up n) done)
        (sym (eqb-true k me this)) is)

    -- if it does nothing, no node does
    pub none_does : IsDoneIf (only n) count p who me (member_up n) None → (ks : List ℕ)
        → IsFirstDone (only n) count p who ks None
    none_does is [] = refl
    none_does is (k ∷ ks) = (None, by (k == me) refl, none_does is ks)
      where
        by : (b : Bool) → (k == me) ≡ b → IsDoneIf (only n) count p who k (only n k) None
        by true e = this_does k None e is
        by false e = other_does k e

    -- otherwise it is the first that does something
    pub this_one_does : (input : Input)
        → IsDoneIf (only n) count p who me (member_up n) (Some input) → (ks : List ℕ)
        → is_in me ks ≡ true → IsFirstDone (only n) count p who ks (Some (me, Does input))
    this_one_does input is [] among = absurd (let no : false ≡ true = among in cc)
    this_one_does input is (k ∷ ks) among = by (this_one_does input is ks) (k == me) refl
      where
        by : (is_in me ks ≡ true → IsFirstDone (only n) count p who ks (Some (me, Does input)))
            → (b : Bool) → (k == me) ≡ b
            → IsFirstDone (only n) count p who (k ∷ ks) (Some (me, Does input))
        by later true e = (
          Some input,
          this_does k (Some input) e is,
          ap (λ j. Some (j, Does input)) (sym (eqb-true k me e)),
        )
        by later false e = (
          None,
          other_does k e,
          later (sym (ap (λ b. b || is_in me ks) e) ∙ among),
        )
