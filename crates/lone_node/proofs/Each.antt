-- What the node here does, in terms of what each node would do.
use Rattle.std.proofs.Common.{◌≡◌, ◌==◌, ◌||◌, ℕ, Bool, true, false, List, [], ◌∷◌, Option, None, Some, if◌then◌else◌, refl, sym, ap, subst, ◌∙◌, eqb-true}
use Rattle.std.specs.Prelude.{option_and_then, option_map}
use Rattle.turn_rules.specs.Choice.{Chosen}
use Rattle.faults.specs.Answers.{first_given, option_or}
use Rattle.node.specs.State.{NodeState}
use Rattle.node.specs.Step.{Does}
use Rattle.protocol.specs.State.{State}
use Rattle.protocol.specs.declared.input.Input.{Input}
use Rattle.lone_node.proofs.Only.{is_in}
use Rattle.lone_node.specs.State.{member_up, only}

module _ (n : NodeState) (f : ℕ → State → Option Input) where
  abbrev me : ℕ
  me = n.member.me

  -- what the node with this number does, if it is here and up
  abbrev pub each : ℕ → Chosen
  each k = option_map (λ input. (k, Does input)) (option_and_then (f k) (only n k))

  -- what the node here does
  abbrev pub its_own : Option Input
  its_own = option_and_then (f me) (member_up n)

  does_here : (k : ℕ) (b : Bool) → (k == me) ≡ b
      → each k ≡ option_map (λ input. (k, Does input))
      (option_and_then (f k) (if b then member_up n else None))
  does_here k b e = ap (λ c. option_map (λ input. (k, Does input))
      (option_and_then (f k) (if c then member_up n else None))) e

  -- a node that does nothing is skipped
  behind : (k : ℕ) (ks : List ℕ) → each k ≡ None
      → first_given each (k ∷ ks) ≡ first_given each ks
  behind k ks none = ap (λ o. option_or o (first_given each ks)) none

  -- if it does nothing, no node does
  pub none_does_so : its_own ≡ None → (ks : List ℕ) → first_given each ks ≡ None
  none_does_so none [] = refl
  none_does_so none (k ∷ ks) = behind k ks (by (k == me) refl) ∙ none_does_so none ks
    where
      by : (b : Bool) → (k == me) ≡ b → each k ≡ None
      by true e = does_here k true e ∙ ap (option_map (λ input. (k, Does input)))
          (subst (λ j. option_and_then (f j) (member_up n) ≡ None) (sym (eqb-true k me e)) none)
      by false e = does_here k false e

  -- otherwise it is the first that does something
  pub this_does_so : (input : Input) → its_own ≡ Some input → (ks : List ℕ)
      → is_in me ks ≡ true → first_given each ks ≡ Some (me, Does input)
  this_does_so input some [] among = absurd (let no : false ≡ true = among in cc)
  this_does_so input some (k ∷ ks) among = by (this_does_so input some ks) (k == me) refl
    where
      by : (is_in me ks ≡ true → first_given each ks ≡ Some (me, Does input))
          → (b : Bool) → (k == me) ≡ b
          → first_given each (k ∷ ks) ≡ Some (me, Does input)
      by later true e =
          ap (λ o. option_or o (first_given each ks))
          (does_here k true e ∙ ap (option_map (λ input. (k, Does input)))
          (subst (λ j. option_and_then (f j) (member_up n) ≡ Some input)
          (sym (eqb-true k me e)) some))
          ∙ ap (λ j. Some (j, Does input)) (eqb-true k me e)
      by later false e = behind k ks (does_here k false e)
          ∙ later (sym (ap (λ b. b || is_in me ks) e) ∙ among)
