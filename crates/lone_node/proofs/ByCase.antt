-- A turn's choice, by the case that applies.
use Rattle.std.proofs.Common.{◌≡◌, ◌++◌, ℕ, List, [], ◌∷◌, Option, None, Some, Ok, length, refl, sym, ap, subst, ◌∙◌}
use Rattle.std.proofs.lemmas.List.{append-nil}
use Rattle.std.specs.Prelude.{is_some}
use Rattle.turn_rules.specs.Choice.{Chosen, Here, IsFirstDone, IsGivenOr, Made, Who, comes_to, first_answer, in_turn}
use Rattle.faults.specs.Answers.{option_or}
use Rattle.node.specs.Step.{Asked}
use Rattle.turn_rules.specs.Calls.{came_by}
use Rattle.datagram_ports.specs.Calls.{WentThrough}
use Rattle.datagram_ports.specs.Kept.{Arrived, GoesOnBy}
use Rattle.lone_node.specs.Handed.{Handed, IsChoiceBy}
use Rattle.lone_node.specs.State.{SoloState, only}
use Rattle.lone_node.specs.Turn.{IsChosen, IsVouchedFor, looked_for, received_by}
use Rattle.lone_node.specs.inside.Turning.{HasCome}
use Rattle.datagram_ports.specs.declared.port.Port.{Ghosts as Port}

-- a record continues by nothing
pub goes_nowhere : {X : Type 0} (o : Option (List X)) → GoesOnBy [] o o
goes_nowhere None = tt
goes_nowhere (Some xs) = sym (append-nil xs)

-- appending nothing and then these is appending these
pub goes_on : {X : Type 0} (more : List X) (a b c : Option (List X)) → GoesOnBy [] a b
    → GoesOnBy more b c → GoesOnBy more a c
goes_on more a b None nothing goes = tt
goes_on more a None (Some zs) nothing goes = absurd goes
goes_on more None (Some ys) (Some zs) nothing goes = absurd nothing
goes_on more (Some xs) (Some ys) (Some zs) nothing goes =
    goes ∙ ap (λ l. l ++ more) (nothing ∙ append-nil xs)

-- and the other way round
pub goes_no_more : {X : Type 0} (more : List X) (a b c : Option (List X)) → GoesOnBy more a b
    → GoesOnBy [] b c → GoesOnBy more a c
goes_no_more more a b None goes nothing = tt
goes_no_more more a None (Some zs) goes nothing = absurd nothing
goes_no_more more None (Some ys) (Some zs) goes nothing = absurd goes
goes_no_more more (Some xs) (Some ys) (Some zs) goes nothing = nothing ∙ append-nil ys ∙ goes

module _ {D P : Type 0} (port : Port P) (old new : SoloState D P) (handed : Handed) where
  abbrev pub here : Here
  here = only old.node.node

  abbrev pub count : ℕ
  count = length old.node.node.member.weights

  -- what is made for a node here
  abbrev pub made : Made
  made k = handed.made

  -- on whose initiative it does something
  abbrev pub who : Who
  who k = handed.initiative

  -- the answer to its job, if its files are made
  abbrev pub answer_here : Chosen
  answer_here = first_answer here count made

  -- The choice is what the node here does on its initiative.
  abbrev pub IsDoneHere : Chosen → Type 0
  IsDoneHere = IsFirstDone here count old.pending who (in_turn old.pending.next count)

  -- It is the choice, and nothing was offered yet.
  abbrev pub Chooses : Chosen → Type 0
  Chooses = IsChosen port old new handed []

  -- the answer to a job
  pub by_answer : (x : ℕ × Asked) → answer_here ≡ Some x → new.port ≡ old.port
      → Chooses (Some x)
  by_answer x job still = record {
    answer = Ok None;
    looked = subst (λ b. GoesOnBy (looked_for b None) (port.given old.port) (port.given new.port))
        (sym (ap is_some job))
        (subst (λ p. GoesOnBy [] (port.given old.port) (port.given p)) (sym still)
        (goes_nowhere (port.given old.port)));
    between = old.port;
    received = subst (λ b. WentThrough port.does old.port (received_by b (Ok None)) old.port)
        (sym (ap is_some job)) refl;
    sent = ([], refl, still);
    vouched = tt;
    choice = subst (λ j. IsGivenOr (option_or j (comes_to here None)) (Some x)
        (IsDoneHere (Some x))) (sym job) refl;
  }

  module _ (no_answer : answer_here ≡ None) (came : Arrived)
      (goes : HasCome port old.port new.port came) where
    -- the choice if this was received
    by_came : (c : Chosen) → IsChoiceBy handed here count old.pending came c → Chooses c
    by_came c choice = record {
      answer = goes.answer;
      looked = subst (λ b. GoesOnBy (looked_for b (came_by goes.answer)) (port.given old.port)
          (port.given new.port)) (sym (ap is_some no_answer))
          (subst (λ a. GoesOnBy (a ∷ []) (port.given old.port) (port.given new.port)) (sym goes.gave)
          goes.kept);
      between = new.port;
      received = subst (λ b. WentThrough port.does old.port (received_by b goes.answer) new.port)
          (sym (ap is_some no_answer)) (new.port, goes.call, refl);
      sent = ([], refl, refl);
      vouched = subst (IsVouchedFor port new.port) (sym goes.gave) goes.vouched;
      choice = subst (λ a. IsChoiceBy handed here count old.pending a c) (sym goes.gave) choice;
    }

    -- the received datagram is taken
    pub by_arrival : (x : ℕ × Asked) → comes_to here came ≡ Some x → Chooses (Some x)
    by_arrival x comes = by_came (Some x) (subst (λ g. IsGivenOr g (Some x)
        (IsDoneHere (Some x)))
        (sym (ap (λ j. option_or j (comes_to here came)) no_answer ∙ comes)) refl)

    -- what the node does on its initiative
    pub by_done : (c : Chosen) → comes_to here came ≡ None → IsDoneHere c → Chooses c
    by_done c comes done = by_came c (subst (λ g. IsGivenOr g c (IsDoneHere c))
        (sym (ap (λ j. option_or j (comes_to here came)) no_answer ∙ comes)) done)
