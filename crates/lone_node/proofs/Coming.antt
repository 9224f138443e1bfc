-- What a receive returned, and what is chosen because of it.
use Rattle.std.proofs.Common.{◌≡◌, ℕ, List, [], ◌∷◌, Option, None, Some, Result, Ok, Err, IfOk, IfSome, Vec, length, refl, sym, subst}
use Rattle.std.specs.List.{range_with_len}
use Rattle.std.specs.Prelude.{option_and_then, option_map}
use Rattle.std.specs.declared.alloc.Global.{Global}
use Rattle.turn_rules.specs.Answering.{answer_if}
use Rattle.turn_rules.specs.Choice.{Chosen, Here, IsChoice, IsFirstDone, IsGivenOr, Made, Who, answer_at, comes_to, first_answer, in_turn}
use Rattle.turn_rules.specs.Pending.{Pending}
use Rattle.faults.specs.Answers.{first_given, option_or}
use Rattle.faults.specs.Bytes.{Text}
use Rattle.node.specs.Step.{Asked, Comes, Does}
use Rattle.turn_rules.specs.Calls.{came_by}
use Rattle.datagram_ports.specs.Calls.{Received, told}
use Rattle.datagram_ports.specs.Kept.{Arrived, GoesOnBy, Parcel, arrived}
use Rattle.datagram_ports.specs.declared.fault.PortFault.{PortFault}
use Rattle.protocol.specs.State.{State}
use Rattle.protocol.specs.declared.input.Input.{Input}
use Rattle.lone_node.specs.Handed.{Handed, IsChoiceBy}
use Rattle.lone_node.specs.State.{SoloState, me_of, only}
use Rattle.lone_node.specs.Turn.{IsChosen, IsHeard, IsVouchedFor}
use Rattle.lone_node.specs.inside.Turning.{HasCome}
use Rattle.datagram_ports.specs.declared.port.Port.{Ghosts as Port}

-- ---- what a receive returned

-- the answer of a receive
abbrev pub Answer : Type 0
Answer = Result (Option (ℕ × Vec ℕ Global)) PortFault

came_is : (r : Answer) → came_by (told r) ≡ arrived r
came_is (Ok None) = refl
came_is (Ok (Some d)) = refl
came_is (Err f) = refl

module _ {P : Type 0} (port : Port P) (old new : P) where
  vouched_is : (r : Answer) → IfOk r (λ o. IfSome o (λ d. port.vouches new d.1.items))
      → IsVouchedFor port new (arrived r)
  vouched_is (Ok None) is = tt
  vouched_is (Ok (Some d)) is = is
  vouched_is (Err f) is = tt

  come_by : (r : Answer) → GoesOnBy (arrived r ∷ []) (port.given old) (port.given new)
      → port.does old (Received (told r)) new
      → IfOk r (λ o. IfSome o (λ d. port.vouches new d.1.items))
      → HasCome port old new (arrived r)
  come_by r goes done vouched = record {
    answer = told r;
    gave = came_is r;
    kept = goes;
    call = done;
    vouched = vouched_is r vouched;
  }

  -- it succeeded
  pub has_come : (r : Answer) (o : Option (ℕ × Vec ℕ Global)) → r ≡ Ok o
      → GoesOnBy (arrived r ∷ []) (port.given old) (port.given new) → port.does old (Received (told r)) new
      → IfOk r (λ o. IfSome o (λ d. port.vouches new d.1.items))
      → HasCome port old new (option_map (λ d. (d.0, d.1.items)) o)
  has_come (Ok None) None is goes done vouched = come_by (Ok None) goes done vouched
  has_come (Ok None) (Some d) is goes done vouched =
      absurd (let no : ◌≡◌ {A = Answer} (Ok None) (Ok (Some d)) = is in cc)
  has_come (Ok (Some d)) None is goes done vouched =
      absurd (let no : ◌≡◌ {A = Answer} (Ok (Some d)) (Ok None) = is in cc)
  has_come (Ok (Some d)) (Some e) is goes done vouched =
      let known : ◌≡◌ {A = Answer} (Ok (Some d)) (Ok (Some e)) = is in
      let same : d ≡ e = cc in
      subst (λ x. HasCome port old new (Some (x.0, x.1.items))) same
      (come_by (Ok (Some d)) goes done vouched)
  has_come (Err f) o is goes done vouched =
      absurd (let no : ◌≡◌ {A = Answer} (Err f) (Ok o) = is in cc)

  -- it failed
  pub none_came : (r : Answer) (f : PortFault) → r ≡ Err f
      → GoesOnBy (arrived r ∷ []) (port.given old) (port.given new) → port.does old (Received (told r)) new
      → HasCome port old new None
  none_came (Ok o) f is goes done =
      absurd (let no : ◌≡◌ {A = Answer} (Ok o) (Err f) = is in cc)
  none_came (Err g) f is goes done = come_by (Err g) goes done tt

-- ---- what is chosen

-- The bytes that a node is asked to take are the received ones.
abbrev pub FromCame : Arrived → Asked → Type 0
FromCame came (Comes text) = (k : ℕ) × (came ≡ Some (k, text))
FromCame came (Does input) = Prim.Unit {0}

-- so the port vouches for them
pub is_heard : {P : Type 0} (port : Port P) (state : P) (came : Arrived) (asked : Asked)
    → FromCame came asked → IsVouchedFor port state came → IsHeard port state asked
is_heard port state came (Comes text) (k, is) vouched =
    subst (IsVouchedFor port state) is vouched
is_heard port state came (Does input) is vouched = tt

module _ (here : Here) (came : Arrived) where
  -- what the first of these gives is an input of the node's own
  each_does : (f : ℕ → Option Input) (ks : List ℕ) (x : ℕ × Asked)
      → first_given (λ k. option_map (λ input. (k, Does input)) (f k)) ks ≡ Some x
      → FromCame came x.1
  each_does f [] x is = absurd (let no : ◌≡◌ {A = Chosen} None (Some x) = is in cc)
  each_does f (k ∷ ks) x is = by (f k) is (each_does f ks x)
    where
      by : (o : Option Input)
          → option_or (option_map (λ (input : Input). (k, Does input)) o)
          (first_given (λ k. option_map (λ input. (k, Does input)) (f k)) ks) ≡ Some x
          → (first_given (λ k. option_map (λ input. (k, Does input)) (f k)) ks ≡ Some x
          → FromCame came x.1)
          → FromCame came x.1
      by None is later = later is
      by (Some input) is later =
          let known : ◌≡◌ {A = Chosen} (Some (k, Does input)) (Some x) = is in
          let same : ◌≡◌ {A = ℕ × Asked} (k, Does input) x = cc in
          subst (λ y. FromCame came y.1) same tt

  answers : (made : Made) (ks : List ℕ) (x : ℕ × Asked)
      → first_given (answer_at here made) ks ≡ Some x → FromCame came x.1
  answers made = each_does (λ k. option_and_then (answer_if (made k)) (here k))

  dones : (count : ℕ) (p : Pending) (who : Who) (ks : List ℕ) (x : ℕ × Asked)
      → IsFirstDone here count p who ks (Some x) → FromCame came x.1
  dones count p who [] x is = absurd (let no : ◌≡◌ {A = Chosen} (Some x) None = is in cc)
  dones count p who (k ∷ ks) x (None, done, later) = dones count p who ks x later
  dones count p who (k ∷ ks) x (Some input, done, is) =
      let known : ◌≡◌ {A = Chosen} (Some x) (Some (k, Does input)) = is in
      let same : ◌≡◌ {A = ℕ × Asked} x (k, Does input) = cc in
      subst (λ y. FromCame came y.1) (sym same) tt

  pub from_came : (count : ℕ) (p : Pending) (made : Made) (who : Who) (x : ℕ × Asked)
      → IsChoice here count p made who came (Some x) → FromCame came x.1
  from_came count p made who x is = by_answer (first_answer here count made) refl is
    where
      by_here : (d : ℕ × Text) → came ≡ Some d → (o : Option State)
          → IsGivenOr (option_map (λ (s : State). (d.0, Comes d.1)) o) (Some x)
          (IsFirstDone here count p who (in_turn p.next count) (Some x))
          → FromCame came x.1
      by_here d e None is = dones count p who (in_turn p.next count) x is
      by_here d e (Some s) is =
          let known : ◌≡◌ {A = Chosen} (Some x) (Some (d.0, Comes d.1)) = is in
          let same : ◌≡◌ {A = ℕ × Asked} x (d.0, Comes d.1) = cc in
          subst (λ y. FromCame came y.1) (sym same) (d.0, e)

      by_came : (a : Arrived) → came ≡ a
          → IsGivenOr (comes_to here a) (Some x)
          (IsFirstDone here count p who (in_turn p.next count) (Some x))
          → FromCame came x.1
      by_came None e is = dones count p who (in_turn p.next count) x is
      by_came (Some d) e is = by_here d e (here d.0) is

      by_answer : (o : Chosen) → first_answer here count made ≡ o
          → IsGivenOr (option_or o (comes_to here came)) (Some x)
          (IsFirstDone here count p who (in_turn p.next count) (Some x)) → FromCame came x.1
      by_answer None job is = by_came came refl is
      by_answer (Some y) job is =
          let known : ◌≡◌ {A = Chosen} (Some x) (Some y) = is in
          let same : x ≡ y = cc in
          answers made (range_with_len 0 count) x
          (subst (λ z. first_answer here count made ≡ Some z) (sym same) job)

-- the port vouched for bytes that a turn chooses, as the receive left it
pub choice_heard : {D P : Type 0} (port : Port P) (old new : SoloState D P)
    (handed : Handed) (parcels : List Parcel) (chosen : Chosen)
    (is : IsChosen port old new handed parcels chosen) (asked : Asked)
    → chosen ≡ Some (me_of old, asked) → IsHeard port is.between asked
choice_heard port old new handed parcels chosen is asked same =
    is_heard port is.between (came_by is.answer) asked
    (from_came (only old.node.node) (came_by is.answer)
    (length old.node.node.member.weights) old.pending (λ k. handed.made)
    (λ k. handed.initiative) (me_of old, asked)
    (subst (IsChoiceBy handed (only old.node.node) (length old.node.node.member.weights)
    old.pending (came_by is.answer)) same is.choice))
    is.vouched
