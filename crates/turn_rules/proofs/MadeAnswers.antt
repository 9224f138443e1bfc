-- What is answered is made.
use Rattle.std.proofs.Common.{◌≡◌, ◌∙◌, ℕ, false, true≢false, List, [], ◌∷◌, Option, None, Some, ap, option_and_then, option_map, refl, subst, sym}
use Rattle.std.specs.List.{range_with_len}
use Rattle.faults.specs.Answers.{first_given, option_or}
use Rattle.faults.specs.Bytes.{Text}
use Rattle.node.specs.Step.{Asked, Comes, Does}
use Rattle.datagram_ports.specs.Kept.{Arrived}
use Rattle.protocol.specs.Given.{Given}
use Rattle.protocol.specs.State.{Building, Gathering, OpenClaim, Progress, State, Voting}
use Rattle.protocol.specs.declared.input.Input.{Input}
use Rattle.turn_rules.specs.Answering.{answer_if}
use Rattle.turn_rules.specs.Choice.{Chosen, Here, IsDoneBy, IsDoneIf, IsFirstDone, IsGivenOr, Made, Who, answer_at, barred_at, comes_to, first_answer, in_turn}
use Rattle.turn_rules.specs.Laws.{AnswersWhatIsMade, NothingMade, is_answer}
use Rattle.turn_rules.specs.Own.{Barred, IsOwnBy, claim_of, renewed}
use Rattle.turn_rules.specs.Pending.{Pending, above_at}
use Rattle.turn_rules.specs.Scheduled.{asked_for, goes_on, scheduled}
use Rattle.turn_rules.specs.declared.initiative.Initiative.{Initiative}
use Rattle.turn_rules.specs.declared.initiative.Initiative.TheVariants.{Own, Scheduled}
use Rattle.turn_rules.specs.declared.wish.Wish.{Wish}
use Rattle.turn_rules.specs.declared.wish.Wish.TheVariants.{Claim, Ask}

-- ---- nothing is made

-- a node's number and the input that it handles
abbrev does : ℕ → Input → ℕ × Asked
does k input = (k, Does input)

-- a node for which nothing is made gives no answer
none_of : (k : ℕ) (h : Option State)
    → option_map (does k) (option_and_then (answer_if None) h) ≡ None
none_of k None = refl
none_of k (Some s) = refl

none_at : (here : Here) (k : ℕ) → answer_at here (λ j. None) k ≡ None
none_at here k = none_of k (here k)

none_among : (here : Here) (ks : List ℕ) → first_given (answer_at here (λ j. None)) ks ≡ None
none_among here [] = refl
none_among here (k ∷ ks) = rw (none_at here k) (none_among here ks)

pub nothing_made : NothingMade
nothing_made here count = none_among here (range_with_len 0 count)

-- ---- whose answer it is

-- an element for which something is given
found : (f : ℕ → Chosen) (ks : List ℕ) (x : ℕ × Asked) → first_given f ks ≡ Some x
    → (k : ℕ) × (f k ≡ Some x)
found f [] x is = absurd cc
found f (k ∷ ks) x is = by (f k) refl (found f ks x) is
  where
    by : (o : Chosen) → f k ≡ o → (first_given f ks ≡ Some x → (j : ℕ) × (f j ≡ Some x))
        → option_or o (first_given f ks) ≡ Some x → (j : ℕ) × (f j ≡ Some x)
    by None none further later = further later
    by (Some y) some further first = (k, some ∙ first)

pair_is : (x y : ℕ × Asked) → Some x ≡ Some y → x ≡ y
pair_is x y is = cc

input_is : (i input : Input) → Does i ≡ Does input → i ≡ input
input_is i input is = cc

none_comes : (text : Text) (input : Input) → Comes text ≡ Does input → ⊥
none_comes text input is = cc

-- what a node does belongs to that node
done_by : (o : Option Input) (k j : ℕ) (input : Input)
    → option_map (does k) o ≡ Some (does j input) → (o ≡ Some input) × (k ≡ j)
done_by None k j input is = absurd cc
done_by (Some i) k j input is =
    let pair = pair_is (does k i) (does j input) is in
    (ap Some (input_is i input (ap (λ x. x.1) pair)), ap (λ x. x.0) pair)

is_made : (m : Option Given) (h : Option State) (input : Input)
    → option_and_then (answer_if m) h ≡ Some input → (builds : Given) × (m ≡ Some builds)
is_made (Some builds) h input is = (builds, refl)
is_made None None input is = absurd cc
is_made None (Some s) input is = absurd cc

made_here : (here : Here) (made : Made) (k j : ℕ) (input : Input)
    → answer_at here made k ≡ Some (j, Does input) → (builds : Given) × (made j ≡ Some builds)
made_here here made k j input is =
    let done = done_by (option_and_then (answer_if (made k)) (here k)) k j input is in
    let builds = is_made (made k) (here k) input done.0 in
    (builds.0, ap made (sym done.1) ∙ builds.1)

-- ---- inputs that aren't answers

abbrev comes : ℕ × Text → State → ℕ × Asked
comes d s = (d.0, Comes d.1)

comes_is_none : (here : Here) (came : Arrived) (j : ℕ) (input : Input)
    → comes_to here came ≡ Some (j, Does input) → ⊥
comes_is_none here None j input is = cc
comes_is_none here (Some d) j input is = by (here d.0) is
  where
    by : (h : Option State) → option_map (comes d) h ≡ Some (does j input) → ⊥
    by None is = cc
    by (Some s) is =
        none_comes d.1 input (ap (λ x. x.1) (pair_is (comes d s) (does j input) is))

-- The input, if there is one, answers no job.
abbrev AnswersNothing : Option Input → Type 0
AnswersNothing None = Prim.Unit {0}
AnswersNothing (Some input) = is_answer input ≡ false

renews : (s : State) (o : OpenClaim) (above : Option ℕ) → is_answer (renewed s o above) ≡ false
renews s o None = refl
renews s o (Some round) = refl

-- what a member does on its own initiative answers nothing
claims : (s : State) (least : Option ℕ) → AnswersNothing (option_map (claim_of s) least)
claims s None = tt
claims s (Some p) = refl

own_answers_nothing : (s : State) (o : Option OpenClaim) (above : Option ℕ) (barred : Barred)
    (done : Option Input) → IsOwnBy s o above barred done → AnswersNothing done
own_answers_nothing s None above barred done (least, is_least, is) =
    subst AnswersNothing (sym is) (claims s least)
own_answers_nothing s (Some o) above barred done is =
    subst AnswersNothing (sym is) (renews s o above)

-- nor does what it does for a scheduler
wish_answers_nothing : (w : Wish) (s : State) → is_answer (asked_for w s) ≡ false
wish_answers_nothing (Claim path above) s = refl
wish_answers_nothing (Ask path) s = refl

goes_answers_nothing : (s : State) (o : OpenClaim) (progress : Progress) (above : Option ℕ)
    → AnswersNothing (goes_on s o progress above)
goes_answers_nothing s o (Gathering c joined k) None = refl
goes_answers_nothing s o (Gathering c joined k) (Some round) = tt
goes_answers_nothing s o (Building c) above = tt
goes_answers_nothing s o (Voting b joined) above = renews s o above

scheduled_answers_nothing : (wish : Option Wish) (above : Option ℕ) (s : State)
    → AnswersNothing (scheduled wish above s)
scheduled_answers_nothing (Some w) above s = wish_answers_nothing w s
scheduled_answers_nothing None above s = by s.claim
  where
    by : (claim : Option OpenClaim)
        → AnswersNothing (option_and_then (λ o. goes_on s o o.progress above) claim)
    by None = tt
    by (Some o) = goes_answers_nothing s o o.progress above

done_by_answers_nothing : (i : Initiative) (s : State) (above : Option ℕ) (barred : Barred)
    (done : Option Input) → IsDoneBy i s above barred done → AnswersNothing done
done_by_answers_nothing Own s above barred done is =
    own_answers_nothing s s.claim above barred done is
done_by_answers_nothing (Scheduled wish) s above barred done is =
    subst AnswersNothing (sym is) (scheduled_answers_nothing wish above s)

module _ (here : Here) (count : ℕ) (p : Pending) (who : Who) where
  done_answers_nothing : (k : ℕ) (o : Option State) (done : Option Input)
      → IsDoneIf here count p who k o done → AnswersNothing done
  done_answers_nothing k None done is = subst AnswersNothing (sym is) tt
  done_answers_nothing k (Some s) done is =
      done_by_answers_nothing (who k) s (above_at p k) (barred_at here count p k) done is

  first_answers_nothing : (ks : List ℕ) (j : ℕ) (input : Input)
      → IsFirstDone here count p who ks (Some (j, Does input)) → is_answer input ≡ false
  first_answers_nothing [] j input is = absurd cc
  first_answers_nothing (k ∷ ks) j input (None, done, later) =
      first_answers_nothing ks j input later
  first_answers_nothing (k ∷ ks) j input (Some i, done, is) =
      let same = input_is i input (ap (λ x. x.1) (sym (pair_is (does j input) (does k i) is))) in
      ap is_answer (sym same) ∙ done_answers_nothing k (here k) (Some i) done

pub answers_what_is_made : AnswersWhatIsMade
answers_what_is_made here count p made who came j input is answer =
    by (first_answer here count made) refl (comes_to here came) refl is
  where
    by : (a : Chosen) → first_answer here count made ≡ a → (b : Chosen)
        → comes_to here came ≡ b
        → IsGivenOr (option_or a b) (Some (j, Does input))
        (IsFirstDone here count p who (in_turn p.next count) (Some (j, Does input)))
        → (builds : Given) × (made j ≡ Some builds)
    by (Some x) first b second is =
        let one = found (answer_at here made) (range_with_len 0 count) (j, Does input)
        (first ∙ sym is) in
        made_here here made one.0 j input one.1
    by None first (Some y) second is =
        absurd (comes_is_none here came j input (second ∙ sym is))
    by None first None second is =
        let nothing = first_answers_nothing here count p who (in_turn p.next count) j input is in
        absurd (true≢false (sym answer ∙ nothing))
