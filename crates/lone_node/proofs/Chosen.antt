-- What was chosen is prepared, or there is a reason why it isn't.
use Rattle.std.proofs.Common.{◌≡◌, ◌≢◌, ℕ, [], Option, None, Some, Result, Ok, Err, IfErr, IfOk, Vec, length, refl, sym, ap, subst, ◌∙◌, inl, inr}
use Rattle.std.specs.List.{range_with_len}
use Rattle.std.specs.Prelude.{option_and_then, option_map}
use Rattle.std.specs.declared.alloc.Global.{Global}
use Rattle.turn_rules.specs.Answering.{answer_if}
use Rattle.turn_rules.specs.Choice.{Chosen, IsDoneIf, comes_to, in_turn}
use Rattle.turn_rules.specs.declared.fault.TurnFault.{TurnFault}
use Rattle.turn_rules.specs.declared.fault.TurnFault.TheVariants as refused
use Rattle.node.specs.Calls.{left_by}
use Rattle.node.specs.State.{LoggedNode, NodeState}
use Rattle.node.specs.Step.{Asked, Comes, Does}
use Rattle.node.specs.declared.fault.NodeFault.{NodeFault}
use Rattle.node.specs.declared.fault.NodeFault.TheVariants as fault
use Rattle.turn_rules.specs.CausedSteps.{IsNoPart, IsPart}
use Rattle.turn_rules.specs.declared.caused_step.CausedStep.{CausedStep}
use Rattle.datagram_ports.specs.Kept.{Arrived}
use Rattle.protocol.specs.Given.{Given}
use Rattle.protocol.specs.Member.{IsMember}
use Rattle.protocol.specs.declared.input.Input.{Input}
use Rattle.lone_node.proofs.ByCase.{answer_here, by_answer, by_arrival, by_done}
use Rattle.lone_node.proofs.Each.{none_does_so, this_does_so}
use Rattle.lone_node.proofs.Only.{in_range, in_turns, none_does, this_one_does}
use Rattle.lone_node.proofs.Refused.{stays, told_is}
use Rattle.lone_node.specs.Faults.{IsTurnFault}
use Rattle.lone_node.specs.Handed.{Handed}
use Rattle.lone_node.specs.State.{SoloState, member_up, only}
use Rattle.lone_node.specs.Turn.{IsChosen}
use Rattle.lone_node.specs.inside.Turning.{HasChosen, HasCome, IsMade, IsNotTaken, told}
use Rattle.datagram_ports.specs.declared.port.Port.{Ghosts as Port}

-- what a receive returned
abbrev pub came_of : Option (ℕ × Vec ℕ Global) → Arrived
came_of o = option_map (λ d. (d.0, d.1.items)) o

-- if nothing was prepared, the choice was to do nothing
pub nothing_taken : {D : Type 0} (m : LoggedNode D) (chosen : Chosen) → IsMade m chosen None
    → chosen ≡ None
nothing_taken m None made = refl
nothing_taken m (Some x) made = absurd made

-- the node's answer to its job, if it is up and its files are made
abbrev pub its_answer : NodeState → Option Given → Option Input
its_answer n made = option_and_then (answer_if made) (member_up n)

-- what holds of an unchanged node holds of the node before
module _ {D : Type 0} (m n : LoggedNode D) (stays : m ≡ n) (new : LoggedNode D)
    (came : Arrived) where
  pub taken_made : (o : Option CausedStep)
      → (new ≡ m) × IsMade m (comes_to (only m.node) came) o
      → (new ≡ n) × IsMade n (comes_to (only n.node) came) o
  taken_made o (same, made) =
      (same ∙ stays, subst (λ x. IsMade x (comes_to (only x.node) came) o) stays made)

  pub not_taken : (f g : TurnFault) → g ≡ f
      → IsNotTaken m new (comes_to (only m.node) came) f
      → IsNotTaken n new (comes_to (only n.node) came) g
  not_taken f g same refuses =
      subst (IsNotTaken n new (comes_to (only n.node) came)) (sym same)
      (subst (λ x. IsNotTaken x new (comes_to (only x.node) came) f) stays refuses)

module _ {D P : Type 0} (port : Port P) (old new : SoloState D P) (handed : Handed)
    (is : IsMember old.node.node.member) where
  abbrev n : NodeState
  n = old.node.node

  abbrev me : ℕ
  me = n.member.me

  abbrev count : ℕ
  count = length n.member.weights

  abbrev HasMade : Option CausedStep → Type 0
  HasMade = HasChosen port old new handed

  abbrev IsFault : TurnFault → Type 0
  IsFault = IsTurnFault port old new handed (λ asked. ⊥)

  -- its answer, if it is up and its files are made
  abbrev Answer : Option Input
  Answer = its_answer n handed.made

  -- the first answer
  abbrev First : Chosen
  First = answer_here port old new handed

  -- ---- its job

  first_is : (input : Input) → Answer ≡ Some input → First ≡ Some (me, Does input)
  first_is input e = this_does_so n (λ k. answer_if handed.made) input e
      (range_with_len 0 count) (in_range me count is.one_of_them)

  pub job_made : new.port ≡ old.port → new.node ≡ old.node → (r : CausedStep)
      → IsPart old.node (Answer) (Some r) → HasMade (Some r)
  job_made still same r part = by (Answer) refl part
    where
      by : (o : Option Input) → Answer ≡ o → IsPart old.node o (Some r)
          → HasMade (Some r)
      by None e part = absurd part
      by (Some input) e part = record {
        chosen = Some (me, Does input);
        is_chosen = by_answer port old new handed (me, Does input) (first_is input e) still;
        made = (refl, part);
        same = same;
      }

  pub job_wants : new.port ≡ old.port → new.node.node ≡ old.node.node → (f : TurnFault)
      → f ≡ refused.Memory → Answer ≢ None → IsFault f
  job_wants still same f memory some =
      subst IsFault (sym memory) (by (Answer) refl)
    where
      by : (o : Option Input) → Answer ≡ o → IsFault refused.Memory
      by None e = absurd (some e)
      by (Some input) e = (
        Does input,
        by_answer port old new handed (me, Does input) (first_is input e) still,
        same,
      )

  -- no job was answered
  no_answer : IsPart old.node Answer None → First ≡ None
  no_answer part = by Answer refl part
    where
      by : (o : Option Input) → Answer ≡ o → IsPart old.node o None → First ≡ None
      by None e part =
          none_does_so n (λ k. answer_if handed.made) e (range_with_len 0 count)
      by (Some input) e part = absurd part

  module _ (none : IsPart old.node (Answer) None) (came : Arrived)
      (goes : HasCome port old.port new.port came) where
    -- memory ran out, and this was chosen
    wants : new.node.node ≡ old.node.node → (asked : Asked)
        → IsChosen port old new handed [] (Some (me, asked)) → (f : TurnFault)
        → f ≡ refused.Memory → IsFault f
    wants same asked chosen f memory = subst IsFault (sym memory) (asked, chosen, same)

    -- ---- what was received

    pub arrival_made : new.node ≡ old.node → (r : CausedStep)
        → IsMade old.node (comes_to (only n) came) (Some r) → HasMade (Some r)
    arrival_made same r made = by (comes_to (only n) came) refl made
      where
        by : (c : Chosen) → comes_to (only n) came ≡ c → IsMade old.node c (Some r)
            → HasMade (Some r)
        by None e made = absurd made
        by (Some x) e made = record {
          chosen = Some x;
          is_chosen = by_arrival port old new handed (no_answer none) came goes x e;
          made = made;
          same = same;
        }

    pub arrival_fault : (f : TurnFault)
        → IsNotTaken old.node new.node (comes_to (only n) came) f → IsFault f
    arrival_fault f t = elim t.cause [
      | inl memory ↦ no_memory memory
      | inr takes ↦ elim (told_is t.refusal) [
        | inl memory ↦ no_memory memory
        | inr node ↦ subst IsFault (sym (t.tells ∙ node)) (
          Comes t.text,
          comes,
          record { cause = inl takes; leaves = t.leaves },
        )
      ]
    ]
      where
        comes : IsChosen port old new handed [] (Some (me, Comes t.text))
        comes = by_arrival port old new handed (no_answer none) came goes (me, Comes t.text) t.comes

        no_memory : t.refusal ≡ fault.Memory → IsFault f
        no_memory memory = wants (t.leaves ∙ ap (left_by n (Comes t.text)) memory) (Comes t.text)
            comes f (t.tells ∙ ap told memory)

    -- ---- what it does on its initiative

    module _ (nothing : IsMade old.node (comes_to (only n) came) None) where
      -- The node does this on its initiative, if anything.
      abbrev pub DoesSo : Option Input → Type 0
      DoesSo done =
          IsDoneIf (only n) count old.pending (λ k. handed.initiative) me (member_up n) done

      done_chosen : (input : Input) → DoesSo (Some input)
          → IsChosen port old new handed [] (Some (me, Does input))
      done_chosen input done =
          by_done port old new handed (no_answer none) came goes
          (Some (me, Does input)) (nothing_taken old.node (comes_to (only n) came) nothing)
          (this_one_does n count old.pending (λ k. handed.initiative) input done
          (in_turn old.pending.next count)
          (in_turns me old.pending.next count is.one_of_them))

      done_made : new.node ≡ old.node → (o : Option CausedStep)
          → ((done : Option Input) × DoesSo done × IsPart old.node done o) → HasMade o
      done_made same None (None, done, part) = record {
        chosen = None;
        is_chosen = by_done port old new handed (no_answer none) came goes None
            (nothing_taken old.node (comes_to (only n) came) nothing)
            (none_does n count old.pending (λ k. handed.initiative) done
            (in_turn old.pending.next count));
        made = tt;
        same = same;
      }
      done_made same (Some r) (None, done, part) = absurd part
      done_made same None (Some input, done, part) = absurd part
      done_made same (Some r) (Some input, done, part) = record {
        chosen = Some (me, Does input);
        is_chosen = done_chosen input done;
        made = (refl, part);
        same = same;
      }

      done_fault : new.node.node ≡ n → (f : TurnFault)
          → ((done : Option Input) × (g : NodeFault) × DoesSo done × (f ≡ told g)
          × IsNoPart old.node done g)
          → IsFault f
      done_fault same f (done, g, does_so, tells, (input, some, why)) = elim why [
        | inl memory ↦ no_memory memory
        | inr takes ↦ elim (told_is g) [
          | inl memory ↦ no_memory memory
          | inr node ↦ subst IsFault (sym (tells ∙ node)) (
            Does input,
            does,
            record { cause = inl takes; leaves = same ∙ sym (stays n input g takes) },
          )
        ]
      ]
        where
          does : IsChosen port old new handed [] (Some (me, Does input))
          does = done_chosen input (subst DoesSo some does_so)

          no_memory : g ≡ fault.Memory → IsFault f
          no_memory memory = wants same (Does input) does f (tells ∙ ap told memory)

      -- ---- the results for a node and a number that are equal to these

      -- Node m does this on its initiative as number k, if anything.
      abbrev DoesAs : LoggedNode D → ℕ → Option Input → Type 0
      DoesAs m k done = IsDoneIf (only m.node) (length m.node.member.weights) old.pending
          (λ j. handed.initiative) k (member_up m.node) done

      module _ (m : LoggedNode D) (same_node : m ≡ old.node) (k : ℕ) (this : k ≡ me) where
        does_so_as : (done : Option Input) → DoesAs m k done → DoesSo done
        does_so_as done is = subst (λ j. DoesAs old.node j done) this
            (subst (λ x. DoesAs x k done) same_node is)

        pub done_answers : new.node ≡ m → (answer : Result (Option CausedStep) TurnFault)
            → IfOk answer (λ o. (done : Option Input) × DoesAs m k done × IsPart m done o)
            → IfOk answer HasMade
        done_answers same (Ok o) (done, is, part) = done_made (same ∙ same_node) o
            (done, does_so_as done is, subst (λ x. IsPart x done o) same_node part)
        done_answers same (Err f) has = tt

        pub done_faults : new.node ≡ m → (answer : Result (Option CausedStep) TurnFault)
            → IfErr answer (λ f. (done : Option Input) × (g : NodeFault) × DoesAs m k done
            × (f ≡ told g) × IsNoPart m done g)
            → IfErr answer IsFault
        done_faults same (Ok o) has = tt
        done_faults same (Err f) (done, g, is, tells, no_part) =
            done_fault (ap (λ x. x.node) (same ∙ same_node)) f (
              done,
              g,
              does_so_as done is,
              tells,
              subst (λ x. IsNoPart x done g) same_node no_part,
            )
