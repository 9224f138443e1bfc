-- A turn's choice, by the case that applies.
use Rattle.std.proofs.Common.{◌≡◌, ℕ, List, [], ◌∷◌, Option, None, Some, refl, sym, ap, subst, ◌∙◌}
use Rattle.std.proofs.lemmas.List.{append-nil}
use Rattle.std.specs.Prelude.{is_some}
use Rattle.turn_rules.specs.Choice.{Chosen, Here, IsGivenOr, comes_to, in_turn}
use Rattle.turn_rules.specs.Pending.{Pending}
use Rattle.faults.specs.Answers.{option_or}
use Rattle.node.specs.Step.{Asked}
use Rattle.datagram_ports.specs.Kept.{Arrived, GoesOnBy}
use Rattle.cluster_turns.specs.Choosing.{IsChosenBy, looked_for}
use Rattle.cluster_turns.specs.Choice.{IsChoiceWith, IsFirstOwn, first_job, has_job}
use Rattle.protocol.specs.Given.{Given}

-- a record continues by nothing
pub goes_on : {X : Type 0} (o : Option (List X)) → GoesOnBy [] o o
goes_on None = tt
goes_on (Some xs) = sym (append-nil xs)

module _ (here : Here) (count : ℕ) (p : Pending) (came : Arrived) (builds : Given) where
  -- what is answered before anything else, or else what was received
  abbrev given_first : Chosen
  given_first = option_or (first_job here count builds) (comes_to here came)

  -- The choice is what the first node does on its own initiative.
  abbrev IsOwnHere : Chosen → Type 0
  IsOwnHere = IsFirstOwn here count p (in_turn p.next count)

  -- if it is something, it is the choice
  given_choice : (x : ℕ × Asked) → given_first ≡ Some x
      → IsChoiceWith here count p builds came (Some x)
  given_choice x is = subst (λ g. IsGivenOr g (Some x) (IsOwnHere (Some x))) (sym is) refl

  -- otherwise the choice is what a node does on its own initiative
  left_choice : (c : Chosen) → given_first ≡ None → IsOwnHere c
      → IsChoiceWith here count p builds came c
  left_choice c none left = subst (λ g. IsGivenOr g c (IsOwnHere c)) (sym none) left

module _ (here : Here) (count : ℕ) (p : Pending) (builds : Given)
    (old new : Option (List Arrived)) where
  -- the answer to a job
  pub by_job : (x : ℕ × Asked) → first_job here count builds ≡ Some x → GoesOnBy [] old new
      → IsChosenBy here count p builds old new (Some x)
  by_job x job goes = record {
    came = None;
    looked = subst (λ b. GoesOnBy (looked_for b None) old new) (sym (ap is_some job)) goes;
    choice = given_choice here count p None builds x
        (ap (λ j. option_or j (comes_to here None)) job);
  }

  module _ (no_job : first_job here count builds ≡ None) (came : Arrived)
      (goes : GoesOnBy (came ∷ []) old new) where
    looked : GoesOnBy (looked_for (has_job here count builds) came) old new
    looked = subst (λ b. GoesOnBy (looked_for b came) old new) (sym (ap is_some no_job)) goes

    -- the received datagram is taken
    pub by_arrival : (x : ℕ × Asked) → comes_to here came ≡ Some x
        → IsChosenBy here count p builds old new (Some x)
    by_arrival x comes = record {
      came = came;
      looked = looked;
      choice = given_choice here count p came builds x
          (ap (λ j. option_or j (comes_to here came)) no_job ∙ comes);
    }

    -- what a node does on its own initiative
    pub by_left : (c : Chosen) → comes_to here came ≡ None → IsFirstOwn here count p (in_turn p.next count) c
        → IsChosenBy here count p builds old new c
    by_left c comes left = record {
      came = came;
      looked = looked;
      choice = left_choice here count p came builds c
          (ap (λ j. option_or j (comes_to here came)) no_job ∙ comes) left;
    }
