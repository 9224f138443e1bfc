-- Right steps and refusals.
use Rattle.std.proofs.Common.{◌≡◌, List, None, Result, Ok, Err, refl, sym, ap, ◌∙◌}
use Rattle.std.proofs.Common.{inl, inr, subst}
use Rattle.protocol.specs.State.{State}
use Rattle.protocol.specs.Answers.{Answer}
use Rattle.protocol.specs.declared.refusal.Refusal.{Refusal}
use Rattle.protocol.specs.declared.refusal.Refusal.TheVariants as refusals
use Rattle.protocol.specs.declared.sends.Send.{Send}
use Rattle.member.specs.Prepared.{IsChangeWeighedBy, Prepared, changed}
use Rattle.member.specs.declared.step.ClaimChange.TheVariants.{Stays}
use Rattle.member.specs.inside.Steps.{Makes, Prepares}

module _ (s : State) (right : Result Answer Refusal) where
  -- the right refusal
  pub refused : (e : Refusal) → right ≡ Err e → Prepares s right (Err e)
  refused e is = record { given = inr is; weighed = tt }

  -- memory may run out in any case
  pub no_memory : Prepares s right (Err refusals.Memory)
  no_memory = record { given = inl refl; weighed = tt }

  -- a step that is the right answer
  pub made_so : (a : Answer) (step : Prepared) → right ≡ Ok a → Makes s a step
      → Prepares s right (Ok step)
  made_so a step is made =
      record { given = is ∙ ap (λ b. Ok b) (sym made.is); weighed = made.weighed }

-- a step that sends this and keeps the claim
pub says_so : (s : State) (step : Prepared) (sends : List Send) → step.note ≡ None
    → step.sends ≡ sends → step.job ≡ None → step.change ≡ Stays
    → Makes s (record { note = None; sends = sends; job = None; claim = s.claim }) step
says_so s step sends note sent job stays = record {
  is = λ i. record {
    note = note i;
    sends = sent i;
    job = job i;
    claim = ap (λ change. changed change s.claim) stays i;
  };
  weighed = subst (λ change. IsChangeWeighedBy s.weights change s.claim) (sym stays) tt;
}
