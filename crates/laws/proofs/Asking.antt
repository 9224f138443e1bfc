-- A turn asks of a node what it chooses.
use Rattle.std.proofs.Common.{◌≡◌, ◌≤◌, ◌==◌, ℕ, Bool, true, false, List, [], ◌∷◌, Option, None, Some, if◌then◌else◌, refl, sym, subst, arith}
use Rattle.std.specs.List.{range_with_len}
use Rattle.std.specs.Prelude.{is_none, option_and_then, option_map}
use Rattle.claims.specs.declared.claim.Claim.{Claim}
use Rattle.turn_rules.specs.Answering.{answer_if, answer_to, built_of, given_for}
use Rattle.turn_rules.specs.Choice.{Chosen, IsDoneBy, IsDoneIf, IsFirstDone, IsGivenOr, Who, answer_at, barred_at, comes_to, first_answer, in_turn}
use Rattle.turn_rules.specs.Own.{Barred, IsOwnBy, claim_of, renewed}
use Rattle.turn_rules.specs.Pending.{Pending, above_at}
use Rattle.faults.specs.Answers.{first_given, option_or}
use Rattle.laws.specs.Hosts.{IsOfATurn}
use Rattle.turn_rules.specs.Scheduled.{asked_for, goes_on, scheduled}
use Rattle.turn_rules.specs.declared.initiative.Initiative.{Initiative}
use Rattle.turn_rules.specs.declared.initiative.Initiative.TheVariants.{Own, Scheduled}
use Rattle.turn_rules.specs.declared.wish.Wish.{Wish}
use Rattle.turn_rules.specs.declared.wish.Wish.TheVariants as wishes
use Rattle.node.specs.State.{NodeState}
use Rattle.node.specs.Step.{Asked, Comes, Does}
use Rattle.package_record.specs.Making.{build_fault}
use Rattle.datagram_ports.specs.Kept.{Arrived}
use Rattle.protocol.specs.Given.{Given}
use Rattle.protocol.specs.Jobs.{build_by, job_of, paths_at}
use Rattle.protocol.specs.Member.{IsMember}
use Rattle.protocol.specs.State.{Building, Gathering, OpenClaim, Progress, State, Voting, name_at}
use Rattle.protocol.specs.declared.input.Input.{Input}
use Rattle.protocol.specs.declared.input.Input.TheVariants as inputs
use Rattle.lone_node.specs.Handed.{Handed, IsChoiceBy}
use Rattle.lone_node.specs.State.{only}
use Rattle.one_list.proofs.matching.LawfulMatch.{few_members}

-- ---- an answer to a job

built_asks : (s : State) (u host : ℕ) (c : Claim) (given : Option Given)
    → IsOfATurn (Does (built_of s u host c given))
built_asks s u host c None = tt
built_asks s u host c (Some given) =
    by (is_none (build_fault (build_by s u (job_of s u host c) given)))
  where
    by : (b : Bool)
        → IsOfATurn (Does (if b then inputs.Built (name_at s u) given
        else inputs.Failed (name_at s u)))
    by true = tt
    by false = tt

answer_asks : (s : State) (builds : Given) (o : OpenClaim) (at : Progress) (input : Input)
    → answer_to s builds o at ≡ Some input → IsOfATurn (Does input)
answer_asks s builds o (Gathering c joined n) input is =
    absurd (let no : ◌≡◌ {A = Option Input} None (Some input) = is in cc)
answer_asks s builds o (Building c) input is =
    let known : built_of s o.unit o.host c (given_for builds (paths_at s o.unit)) ≡ input = cc in
    subst (λ i. IsOfATurn (Does i)) known
    (built_asks s o.unit o.host c (given_for builds (paths_at s o.unit)))
answer_asks s builds o (Voting b joined) input is =
    absurd (let no : ◌≡◌ {A = Option Input} None (Some input) = is in cc)

job_asks : (s : State) (builds : Given) (claim : Option OpenClaim) (input : Input)
    → option_and_then (λ o. answer_to s builds o o.progress) claim ≡ Some input
    → IsOfATurn (Does input)
job_asks s builds None input is =
    absurd (let no : ◌≡◌ {A = Option Input} None (Some input) = is in cc)
job_asks s builds (Some o) input is = answer_asks s builds o o.progress input is

-- ---- what it does on its own initiative

own_asks : (s : State) → s.me ≤ 65535 → (o : Option OpenClaim) (above : Option ℕ) (barred : Barred)
    (input : Input) → IsOwnBy s o above barred (Some input) → IsOfATurn (Does input)
own_asks s small None above barred input (None, least, is) =
    absurd (let no : ◌≡◌ {A = Option Input} (Some input) None = is in cc)
own_asks s small None above barred input (Some p, least, is) =
    let known : ◌≡◌ {A = Option Input} (Some input) (Some (claim_of s p)) = is in
    let same : input ≡ claim_of s p = cc in
    subst (λ i. IsOfATurn (Does i)) (sym same) small
own_asks s small (Some o) above barred input is = by above is
  where
    by : (above : Option ℕ) → Some input ≡ Some (renewed s o above) → IsOfATurn (Does input)
    by None is =
        let known : ◌≡◌ {A = Option Input} (Some input) (Some inputs.Nudge) = is in
        let same : input ≡ inputs.Nudge = cc in
        subst (λ i. IsOfATurn (Does i)) (sym same) tt
    by (Some round) is =
        let known : ◌≡◌ {A = Option Input} (Some input)
        (Some (inputs.Claim (name_at s o.unit) s.me round)) = is in
        let same : input ≡ inputs.Claim (name_at s o.unit) s.me round = cc in
        subst (λ i. IsOfATurn (Does i)) (sym same) small

-- ---- what it does for its scheduler

wish_asks : (w : Wish) (s : State) → s.me ≤ 65535 → IsOfATurn (Does (asked_for w s))
wish_asks (wishes.Claim path above) s small = small
wish_asks (wishes.Ask path) s small = tt

renewed_asks : (s : State) → s.me ≤ 65535 → (o : OpenClaim) (above : Option ℕ)
    → IsOfATurn (Does (renewed s o above))
renewed_asks s small o None = tt
renewed_asks s small o (Some round) = small

-- The input, if there is one, may be asked in a turn.
abbrev AsksSo : Option Input → Type 0
AsksSo None = Prim.Unit {0}
AsksSo (Some input) = IsOfATurn (Does input)

goes_asks : (s : State) → s.me ≤ 65535 → (o : OpenClaim) (at : Progress) (above : Option ℕ)
    → AsksSo (goes_on s o at above)
goes_asks s small o (Gathering c joined n) None = tt
goes_asks s small o (Gathering c joined n) (Some round) = tt
goes_asks s small o (Building c) above = tt
goes_asks s small o (Voting b joined) above = renewed_asks s small o above

scheduled_asks : (wish : Option Wish) (above : Option ℕ) (s : State) → s.me ≤ 65535
    → (input : Input) → scheduled wish above s ≡ Some input → IsOfATurn (Does input)
scheduled_asks wish above s small input is = subst AsksSo is (by wish)
  where
    going : (claim : Option OpenClaim)
        → AsksSo (option_and_then (λ o. goes_on s o o.progress above) claim)
    going None = tt
    going (Some o) = goes_asks s small o o.progress above

    by : (wish : Option Wish) → AsksSo (scheduled wish above s)
    by None = going s.claim
    by (Some w) = wish_asks w s small

-- ---- the choice of a node that is the only one here

module _ (n : NodeState) (small : n.member.me ≤ 65535) where
  -- the only node here is that node
  here_is : (k : ℕ) (s : State) → only n k ≡ Some s → s.me ≤ 65535
  here_is k s at = by (k == n.member.me) n.stopped at
    where
      by : (b c : Bool) → (if b then (if c then None else Some n.member) else None) ≡ Some s
          → s.me ≤ 65535
      by true true at = absurd (let no : ◌≡◌ {A = Option State} None (Some s) = at in cc)
      by true false at =
          let known : ◌≡◌ {A = Option State} (Some n.member) (Some s) = at in
          let same : n.member ≡ s = cc in
          subst (λ m. m.me ≤ 65535) same small
      by false c at = absurd (let no : ◌≡◌ {A = Option State} None (Some s) = at in cc)

  -- ---- the answer to its job

  made_asks : (made : Option Given) (s : State) (input : Input)
      → answer_if made s ≡ Some input → IsOfATurn (Does input)
  made_asks None s input is =
      absurd (let no : ◌≡◌ {A = Option Input} None (Some input) = is in cc)
  made_asks (Some builds) s input is = job_asks s builds s.claim input is

  -- the first answer of these nodes
  answers_ask : (made : Option Given) (ks : List ℕ) (x : ℕ × Asked)
      → first_given (answer_at (only n) (λ k. made)) ks ≡ Some x → IsOfATurn x.1
  answers_ask made [] x is = absurd (let no : ◌≡◌ {A = Chosen} None (Some x) = is in cc)
  answers_ask made (k ∷ ks) x is = by (answers_ask made ks x) (only n k) is
    where
      later : Chosen
      later = first_given (answer_at (only n) (λ k. made)) ks

      at_node : (later ≡ Some x → IsOfATurn x.1) → (s : State) (o : Option Input)
          → answer_if made s ≡ o
          → option_or (option_map (λ (input : Input). (k, Does input)) o) later ≡ Some x
          → IsOfATurn x.1
      at_node behind s None e is = behind is
      at_node behind s (Some input) e is =
          let known : ◌≡◌ {A = Chosen} (Some (k, Does input)) (Some x) = is in
          let same : ◌≡◌ {A = ℕ × Asked} (k, Does input) x = cc in
          subst (λ y. IsOfATurn y.1) same (made_asks made s input e)

      by : (later ≡ Some x → IsOfATurn x.1) → (o : Option State)
          → option_or (option_map (λ (input : Input). (k, Does input))
          (option_and_then (answer_if made) o)) later ≡ Some x
          → IsOfATurn x.1
      by behind None is = behind is
      by behind (Some s) is = at_node behind s (answer_if made s) refl is

  -- ---- what it does on its initiative

  done_asks : (i : Initiative) (s : State) → s.me ≤ 65535 → (above : Option ℕ) (barred : Barred)
      (input : Input) → IsDoneBy i s above barred (Some input) → IsOfATurn (Does input)
  done_asks Own s small_me above barred input is =
      own_asks s small_me s.claim above barred input is
  done_asks (Scheduled wish) s small_me above barred input is =
      scheduled_asks wish above s small_me input (sym is)

  dones_ask : (count : ℕ) (p : Pending) (who : Who) (ks : List ℕ) (x : ℕ × Asked)
      → IsFirstDone (only n) count p who ks (Some x) → IsOfATurn x.1
  dones_ask count p who [] x is =
      absurd (let no : ◌≡◌ {A = Chosen} (Some x) None = is in cc)
  dones_ask count p who (k ∷ ks) x (None, done, later) = dones_ask count p who ks x later
  dones_ask count p who (k ∷ ks) x (Some input, done, is) =
      let known : ◌≡◌ {A = Chosen} (Some x) (Some (k, Does input)) = is in
      let same : ◌≡◌ {A = ℕ × Asked} x (k, Does input) = cc in
      subst (λ y. IsOfATurn y.1) (sym same) (by (only n k) refl done)
    where
      by : (o : Option State) → only n k ≡ o → IsDoneIf (only n) count p who k o (Some input)
          → IsOfATurn (Does input)
      by None at done =
          absurd (let no : ◌≡◌ {A = Option Input} (Some input) None = done in cc)
      by (Some s) at done = done_asks (who k) s (here_is k s at) (above_at p k)
          (barred_at (only n) count p k) input done

  -- ---- the choice

  pub chosen_asks : (count : ℕ) (p : Pending) (handed : Handed) (came : Arrived) (x : ℕ × Asked)
      → IsChoiceBy handed (only n) count p came (Some x) → IsOfATurn x.1
  chosen_asks count p handed came x is = by_answer answer refl is
    where
      answer : Chosen
      answer = first_answer (only n) count (λ k. handed.made)

      IsDoneHere : Type 0
      IsDoneHere = IsFirstDone (only n) count p (λ k. handed.initiative)
          (in_turn p.next count) (Some x)

      dones : IsDoneHere → IsOfATurn x.1
      dones = dones_ask count p (λ k. handed.initiative) (in_turn p.next count) x

      by_here : (d : ℕ × List ℕ) (o : Option State)
          → IsGivenOr (option_map (λ (s : State). (d.0, Comes d.1)) o) (Some x) IsDoneHere
          → IsOfATurn x.1
      by_here d None is = dones is
      by_here d (Some s) is =
          let known : ◌≡◌ {A = Chosen} (Some x) (Some (d.0, Comes d.1)) = is in
          let same : ◌≡◌ {A = ℕ × Asked} x (d.0, Comes d.1) = cc in
          subst (λ y. IsOfATurn y.1) (sym same) tt

      by_came : (came : Arrived) → IsGivenOr (comes_to (only n) came) (Some x) IsDoneHere
          → IsOfATurn x.1
      by_came None is = dones is
      by_came (Some d) is = by_here d (only n d.0) is

      by_answer : (o : Chosen) → answer ≡ o
          → IsGivenOr (option_or o (comes_to (only n) came)) (Some x) IsDoneHere
          → IsOfATurn x.1
      by_answer None none is = by_came came is
      by_answer (Some y) some is =
          let known : ◌≡◌ {A = Chosen} (Some x) (Some y) = is in
          let same : x ≡ y = cc in
          answers_ask handed.made (range_with_len 0 count) x
          (subst (λ z. answer ≡ Some z) (sym same) some)

-- a member's number is small
pub number_is_small : (n : NodeState) → IsMember n.member → n.member.me ≤ 65535
number_is_small n is =
    let few = few_members n.member.weights is.weights in
    let one = is.one_of_them in
    omega (arith, few, one)
