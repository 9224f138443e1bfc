-- What a node refuses.
use Rattle.std.proofs.Common.{◌≡◌, Bool, true, false, Result, Ok, Err, if◌then◌else◌, refl, sym, ap, ◌∙◌, inl, inr}
use Rattle.std.proofs.lemmas.Bool.{true≢false}
use Rattle.std.specs.Prelude.{◌⊎◌, ℕ}
use Rattle.turn_rules.specs.declared.fault.TurnFault.{TurnFault}
use Rattle.turn_rules.specs.declared.fault.TurnFault.TheVariants as refused
use Rattle.node.specs.Calls.{left_by}
use Rattle.node.specs.State.{NodeState}
use Rattle.node.specs.Step.{Does, Taken, Takes, taken}
use Rattle.node.specs.declared.fault.NodeFault.{NodeFault}
use Rattle.node.specs.declared.fault.NodeFault.TheVariants as fault
use Rattle.protocol.specs.Answers.{Answer}
use Rattle.protocol.specs.Step.{answer}
use Rattle.protocol.specs.declared.input.Input.{Input}
use Rattle.protocol.specs.declared.refusal.Refusal.{Refusal}
use Rattle.lone_node.specs.inside.Turning.{told}

-- A refusal is reported as out of memory or as the node's own.
pub told_is : (f : NodeFault) → (f ≡ fault.Memory) ⊎ (told f ≡ refused.Node f)
told_is fault.Memory = inl refl
told_is (fault.Refused r) = inr refl
told_is (fault.Log f) = inr refl
told_is fault.Stopped = inr refl
told_is (fault.Foreign f) = inr refl

-- a node that refused an input of its own is unchanged
pub stays : (n : NodeState) (input : Input) (f : NodeFault) → Takes n (Does input) (Err f)
    → left_by n (Does input) f ≡ n
stays n input f takes = by n.stopped takes.right_is
  where
    same : (g : NodeFault) → ◌≡◌ {A = Result Taken NodeFault} (Err f) (Err g)
        → left_by n (Does input) g ≡ n → left_by n (Does input) f ≡ n
    same g e left =
        let known : ◌≡◌ {A = Result Taken NodeFault} (Err f) (Err g) = e in
        let is : f ≡ g = cc in
        ap (left_by n (Does input)) is ∙ left

    answered : (a : Result Answer Refusal) → Err f ≡ taken n.pieces a
        → left_by n (Does input) f ≡ n
    answered (Ok a) e =
        absurd (let no : ◌≡◌ {A = Result Taken NodeFault} (Err f)
        (Ok (record { answer = a; pieces = n.pieces })) = e in cc)
    answered (Err r) e = same (fault.Refused r) e refl

    by : (b : Bool)
        → Err f ≡ (if b then Err fault.Stopped
        else taken n.pieces (answer n.member takes.letter input))
        → left_by n (Does input) f ≡ n
    by true e = same fault.Stopped e refl
    by false e = answered (answer n.member takes.letter input) e

-- a stopped node doesn't run
pub stops_or_runs : (n m : NodeState) → m ≡ record n { stopped = true } → m.stopped ≡ false → ⊥
stops_or_runs n m stops runs = true≢false (sym (ap (λ (x : NodeState). x.stopped) stops) ∙ runs)

-- A refusal says that the node went down, or something else, whatever else holds.
pub down_or_else : {A B C : Type 0} (f : TurnFault)
    → (A → B → ((k : ℕ) × (f ≡ refused.Down k)) ⊎ C)
    → ((k : ℕ) × (f ≡ refused.Down k)) ⊎ (A → B → C)
down_or_else refused.Memory has = inr (λ a b. elim (has a b) [
  | inl (k, e) ↦ absurd (let no : refused.Memory ≡ refused.Down k = e in cc)
  | inr c ↦ c
])
down_or_else (refused.Node f) has = inr (λ a b. elim (has a b) [
  | inl (k, e) ↦ absurd (let no : refused.Node f ≡ refused.Down k = e in cc)
  | inr c ↦ c
])
down_or_else (refused.Down k) has = inl (k, refl)
down_or_else refused.NotSent has = inr (λ a b. elim (has a b) [
  | inl (k, e) ↦ absurd (let no : refused.NotSent ≡ refused.Down k = e in cc)
  | inr c ↦ c
])
down_or_else refused.NotFresh has = inr (λ a b. elim (has a b) [
  | inl (k, e) ↦ absurd (let no : refused.NotFresh ≡ refused.Down k = e in cc)
  | inr c ↦ c
])
