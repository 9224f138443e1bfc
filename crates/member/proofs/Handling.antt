-- The result of preparing a step and taking it, if none was prepared.
use Rattle.std.proofs.Common.{◌≡◌, ◌∙◌, Result, Ok, Err, ⊎_elim, ap, inl, inr, refl}
use Rattle.protocol.specs.Answers.{Answer}
use Rattle.protocol.specs.State.{State}
use Rattle.protocol.specs.Step.{HasAnswered, HasHandled, taken, told_right}
use Rattle.protocol.specs.declared.input.Input.{Input}
use Rattle.protocol.specs.declared.refusal.Refusal.{Refusal}

-- a call that refuses takes no step
none_taken : (s : State) (right : Result Answer Refusal) (e : Refusal) → s ≡ taken s right (Err e)
none_taken s (Ok a) e = refl
none_taken s (Err f) e = refl

-- if none is prepared, the member is unchanged
pub refused_so : (old new : State) (input : Input) (e : Refusal) → HasAnswered old input (Err e)
    → new ≡ old → HasHandled old new input (Err e)
refused_so old new input e answered same = record {
  right = answered.right;
  answers = answered.answers;
  given = ⊎_elim (λ memory. inl memory) (λ right. inr (ap told_right right)) answered.given;
  state = same ∙ none_taken old answered.right e;
}
