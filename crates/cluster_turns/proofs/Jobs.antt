-- The answer of the least node that has a job.
use Rattle.std.proofs.Common.{◌≡◌, ◌≢◌, ◌<◌, ◌+◌, ◌-◌, ◌++◌, ℕ, true, false, List, [], ◌∷◌, Option, None, Some, length, refl, sym, ap, subst, ◌∙◌, arith}
use Rattle.std.specs.List.{range_with_len}
use Rattle.std.specs.Prelude.{is_some, option_and_then, option_map, slice_index_or}
use Rattle.turn_rules.specs.Answering.{answer_of}
use Rattle.cluster_turns.specs.Choice.{first_job, job_at}
use Rattle.turn_rules.specs.declared.fault.TurnFault.{TurnFault}
use Rattle.faults.specs.Answers.{first_given, option_or}
use Rattle.listing.proofs.First.{first_given-append}
use Rattle.node.specs.State.{LoggedNode}
use Rattle.node.specs.Step.{Does}
use Rattle.turn_rules.specs.CausedSteps.{IsPart}
use Rattle.turn_rules.specs.declared.caused_step.CausedStep.{CausedStep}
use Rattle.protocol.specs.Given.{Given}
use Rattle.protocol.specs.declared.input.Input.{Input}
use Rattle.cluster_turns.proofs.Places.{is_here, part_at, stands_at}
use Rattle.cluster_turns.proofs.Ranges.{range_at, range_more}
use Rattle.cluster_turns.specs.declared.chosen.Chosen.{Chosen as PreparedStep}
use Rattle.cluster_turns.specs.Choosing.{IsChosenAs, IsPartAt}
use Rattle.cluster_turns.specs.Here.{here_in}
use Rattle.cluster_turns.specs.inside.Cases.{IsWantFor, answer_here}

module _ {D : Type 0} (nodes : List (LoggedNode D)) (builds : Given) where
  -- none of this number of nodes has a job
  abbrev pub NoneHasJob : ℕ → Type 0
  NoneHasJob i = first_given (job_at (here_in nodes) builds) (range_with_len 0 i) ≡ None

  -- nor has one more
  none_has_more : (i : ℕ) → NoneHasJob i → answer_here nodes builds i ≡ None → NoneHasJob (i + 1)
  none_has_more i none is =
      ap (first_given (job_at (here_in nodes) builds)) more
      ∙ (first_given-append (job_at (here_in nodes) builds) (range_with_len 0 i) (i ∷ [])
      ∙ (ap (λ o. option_or o (first_given (job_at (here_in nodes) builds) (i ∷ []))) none
      ∙ ap (λ o. option_or (option_map (λ (input : Input). (i, Does input)) o) None) is))
    where
      more : range_with_len 0 (i + 1) ≡ range_with_len 0 i ++ i ∷ []
      more =
          let next : i + 1 - 0 ≡ i + 1 = omega arith in
          let here : i - 0 ≡ i = omega arith in
          ap (range_with_len 0) (sym next)
          ∙ (range_more 0 i (omega arith) ∙ ap (λ j. range_with_len 0 j ++ i ∷ []) here)

  module _ (count i : ℕ) (below : i < count) (none : NoneHasJob i) where
    first_is : (input : Input) → answer_here nodes builds i ≡ Some input
        → first_job (here_in nodes) count builds ≡ Some (i, Does input)
    first_is input is =
        ap (first_given (job_at (here_in nodes) builds)) parts
        ∙ (first_given-append (job_at (here_in nodes) builds) (range_with_len 0 i)
        (i ∷ range_with_len (i + 1) (count - (i + 1)))
        ∙ (ap (λ o. option_or o (first_given (job_at (here_in nodes) builds)
        (i ∷ range_with_len (i + 1) (count - (i + 1))))) none
        ∙ ap (λ o. option_or (option_map (λ (input : Input). (i, Does input)) o)
        (first_given (job_at (here_in nodes) builds)
        (range_with_len (i + 1) (count - (i + 1))))) is))
      where
        parts : range_with_len 0 count
            ≡ range_with_len 0 i ++ i ∷ range_with_len (i + 1) (count - (i + 1))
        parts =
            let all : count - 0 ≡ count = omega arith in
            let here : i - 0 ≡ i = omega arith in
            ap (range_with_len 0) (sym all)
            ∙ (range_at 0 count i (omega arith) below
            ∙ ap (λ j. range_with_len 0 j ++ i ∷ range_with_len (i + 1) (count - (i + 1))) here)

    -- its answer is chosen
    job_chosen : (r : PreparedStep) → r.node ≡ i
        → IsPartAt nodes i (answer_here nodes builds i) (Some r.readied)
        → IsChosenAs nodes (first_job (here_in nodes) count builds) (Some r)
    job_chosen r at part = by (answer_here nodes builds i) refl part
      where
        by : (o : Option Input) → answer_here nodes builds i ≡ o → IsPartAt nodes i o (Some r.readied)
            → IsChosenAs nodes (first_job (here_in nodes) count builds) (Some r)
        by None is part = absurd part
        by (Some input) is part =
            subst (λ c. IsChosenAs nodes c (Some r)) (sym (first_is input is)) (at, part)

    -- it has a job
    job_there : is_some (answer_here nodes builds i) ≡ true
        → is_some (first_job (here_in nodes) count builds) ≡ true
    job_there some = by (answer_here nodes builds i) refl some
      where
        by : (o : Option Input) → answer_here nodes builds i ≡ o → is_some o ≡ true
            → is_some (first_job (here_in nodes) count builds) ≡ true
        by None is some = absurd (let no : false ≡ true = some in cc)
        by (Some input) is some = ap is_some (first_is input is)

  -- no part means no answer
  none_of_part : (i : ℕ) → IsPartAt nodes i (answer_here nodes builds i) None → answer_here nodes builds i ≡ None
  none_of_part i = by (answer_here nodes builds i)
    where
      by : (o : Option Input) → IsPartAt nodes i o None → o ≡ None
      by None part = refl
      by (Some input) part = absurd part

  -- ---- the results for unchanged nodes

  module _ (old : List (LoggedNode D)) (was : old ≡ nodes) where
    pub job_answered : (count i : ℕ) → i < count → NoneHasJob i → (o : Option CausedStep) (r : PreparedStep)
        → o ≡ Some r.readied → r.node ≡ i → IsPartAt old i (answer_here old builds i) o
        → IsChosenAs nodes (first_job (here_in nodes) count builds) (Some r)
    job_answered count i below none o r some at part =
        job_chosen count i below none r at
        (subst (λ x. IsPartAt nodes i (answer_here nodes builds i) x) some
        (subst (λ xs. IsPartAt xs i (answer_here xs builds i) o) was part))

    pub none_answered : (i : ℕ) → NoneHasJob i → (o : Option CausedStep) → o ≡ None
        → IsPartAt old i (answer_here old builds i) o → NoneHasJob (i + 1)
    none_answered i none o nothing part =
        none_has_more i none (none_of_part i
        (subst (λ x. IsPartAt nodes i (answer_here nodes builds i) x) nothing
        (subst (λ xs. IsPartAt xs i (answer_here xs builds i) o) was part)))

    pub job_wants : (count i : ℕ) → i < count → NoneHasJob i → (f : TurnFault)
        → IsWantFor (answer_here old builds i) f
        → IsWantFor (first_job (here_in nodes) count builds) f
    job_wants count i below none f (memory, some) = (
      memory,
      job_there count i below none
          (subst (λ xs. is_some (answer_here xs builds i) ≡ true) was some),
    )

  -- ---- the results for a borrowed node

  module _ (k : ℕ) (n m : LoggedNode D) (below : k < length nodes)
      (value : n ≡ slice_index_or nodes k n) (up : n.node.stopped ≡ false) where
    answer_is : answer_here nodes builds k ≡ answer_of n.node.member builds
    answer_is = ap (option_and_then (λ s. answer_of s builds))
        (is_here nodes k n (stands_at nodes k n value below) up)

    pub part_lent : m ≡ n → (o : Option CausedStep) → IsPart m (answer_of n.node.member builds) o
        → IsPartAt nodes k (answer_here nodes builds k) o
    part_lent same o part =
        subst (λ x. IsPartAt nodes k x o) (sym answer_is)
        (part_at nodes k n (stands_at nodes k n value below) up (answer_of n.node.member builds) o
        (subst (λ x. IsPart x (answer_of n.node.member builds) o) same part))

    -- it has a job
    pub job_lent : answer_of n.node.member builds ≢ None
        → is_some (answer_here nodes builds k) ≡ true
    job_lent some = ap is_some answer_is ∙ by (answer_of n.node.member builds) some
      where
        by : (o : Option Input) → o ≢ None → is_some o ≡ true
        by None other = absurd (other refl)
        by (Some input) other = refl
