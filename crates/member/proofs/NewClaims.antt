-- Claims and questions, by the state of their unit.
use Rattle.std.proofs.Common.{◌≡◌, ℕ, suc, max, Bool, true, false, [], ◌∷◌, Option, Some}
use Rattle.std.proofs.Common.{None, Result, Ok, Err, refl, sym, subst, ap, ◌∙◌, inr, nat_le}
use Rattle.std.specs.Prelude.{is_some}
use Rattle.std.proofs.lemmas.Bool.{false≢true}
use Rattle.faults.specs.Answers.{first_that_applies}
use Rattle.faults.specs.Bytes.{Text}
use Rattle.claims.specs.Step.{on_inquire, on_start}
use Rattle.claims.specs.Claim.{greatest_round}
use Rattle.engine.specs.declared.Letter.{Letter}
use Rattle.engine.specs.declared.Letter.TheVariants as letters
use Rattle.ballots.specs.declared.message.Body.TheVariants as bodies
use Rattle.protocol.specs.State.{HasLetter, State, Value, facts_at, is_held}
use Rattle.protocol.specs.InTheAgreement.{view}
use Rattle.protocol.specs.Member.{IsMember}
use Rattle.protocol.specs.Sends.{sent_to}
use Rattle.protocol.specs.Answers.{Answer, answered, everyone, message_of, others}
use Rattle.protocol.specs.Step.{IsLetterOf, answered_or, asks, at_unit, claims, host_in, is_waiting}
use Rattle.protocol.specs.Step.{stranger, unit_in, unless}
use Rattle.protocol.specs.declared.input.Input.TheVariants as inputs
use Rattle.protocol.specs.declared.refusal.Refusal.{Refusal}
use Rattle.protocol.specs.declared.refusal.Refusal.TheVariants as refusals
use Rattle.member.specs.Prepared.{Prepared}
use Rattle.member.specs.inside.Steps.{IsPrepared, Prepares, opened_in}
use Rattle.member.proofs.SameStep.{claim_kept, job_kept}

-- the option is None
none_there : {X : Type 0} (o : Option X) → is_some o ≡ false → o ≡ None
none_there None e = refl
none_there (Some x) e = absurd (false≢true (sym e))

module _ (s : State) (path : Text) where
  -- ---- a path that names no unit

  pub strange_claim : (host above : ℕ) (e : Refusal) → unit_in s path ≡ None → e ≡ stranger s path
      → IsPrepared s (inputs.Claim path host above) (Err e)
  strange_claim host above e none is = record {
    answered = record {
      right = Err e;
      answers = record {
        letter = letters.T;
        shown = subst (λ v. IsLetterOf s v letters.T) (sym none) tt;
        right = ap (λ f. Err f) is
            ∙ sym (ap (at_unit (stranger s path) (claims s letters.T host above)) none);
      };
      given = inr refl;
    };
    weighed = tt;
  }

  pub strange_question : (e : Refusal) → unit_in s path ≡ None → e ≡ stranger s path
      → IsPrepared s (inputs.Ask path) (Err e)
  strange_question e none is = record {
    answered = record {
      right = Err e;
      answers = record {
        letter = letters.T;
        shown = tt;
        right = ap (λ f. Err f) is ∙ sym (ap (at_unit (stranger s path) (asks s)) none);
      };
      given = inr refl;
    };
    weighed = tt;
  }

  -- ---- a unit's

  pub unit_claim : (host above u : ℕ) (letter : Letter) (r : Result Prepared Refusal)
      → unit_in s path ≡ Some u → HasLetter s u letter
      → Prepares s (claims s letter host above u) r
      → IsPrepared s (inputs.Claim path host above) r
  unit_claim host above u letter r found shown made = record {
    answered = record {
      right = claims s letter host above u;
      answers = record {
        letter = letter;
        shown = subst (λ v. IsLetterOf s v letter) (sym found) shown;
        right = sym (ap (at_unit (stranger s path) (claims s letter host above)) found);
      };
      given = made.given;
    };
    weighed = made.weighed;
  }

  pub unit_question : (u : ℕ) (r : Result Prepared Refusal) → unit_in s path ≡ Some u
      → Prepares s (asks s u) r → IsPrepared s (inputs.Ask path) r
  unit_question u r found made = record {
    answered = record {
      right = asks s u;
      answers = record {
        letter = letters.T;
        shown = tt;
        right = sym (ap (at_unit (stranger s path) (asks s)) found);
      };
      given = made.given;
    };
    weighed = made.weighed;
  }

-- ---- a claim for the unit

module _ (s : State) (letter : Letter) (host above u : ℕ) where
  -- the refusal by the three tests
  abbrev tested : Bool → Bool → Bool → Option Refusal
  tested held waits spent = first_that_applies
      ((held, refusals.Held) ∷ (waits, refusals.Waiting) ∷ (spent, refusals.RoundsSpent) ∷ [])

  -- the answer without a refusal
  abbrev opening : Option Value → Result Answer Refusal
  opening held =
      answered_or refusals.Held s u host (everyone s) (on_start s.me (view s u) held above)

  -- whether no round is left
  abbrev spent : Bool
  spent = nat_le greatest_round (max above (facts_at s u).opened)

  pub held_claim : is_held s u ≡ true → claims s letter host above u ≡ Err refusals.Held
  held_claim held =
      ap (λ a. unless (tested a (is_waiting letter) spent) (opening (view s u).held)) held

  pub waiting_claim : is_held s u ≡ false → is_waiting letter ≡ true
      → claims s letter host above u ≡ Err refusals.Waiting
  waiting_claim held waits =
      ap (λ a. unless (tested a (is_waiting letter) spent) (opening (view s u).held)) held
      ∙ ap (λ b. unless (tested false b spent) (opening (view s u).held)) waits

  pub spent_claim : is_held s u ≡ false → is_waiting letter ≡ false → spent ≡ true
      → claims s letter host above u ≡ Err refusals.RoundsSpent
  spent_claim held waits none_left =
      ap (λ a. unless (tested a (is_waiting letter) spent) (opening (view s u).held)) held
      ∙ ap (λ b. unless (tested false b spent) (opening (view s u).held)) waits
      ∙ ap (λ c. unless (tested false false c) (opening (view s u).held)) none_left

  pub opened_claim : (round : ℕ) → is_held s u ≡ false → is_waiting letter ≡ false
      → spent ≡ false → round ≡ suc (max above (facts_at s u).opened)
      → claims s letter host above u
      ≡ Ok (answered s u host (everyone s) (opened_in (view s u) s.me round))
  opened_claim round held waits some_left next =
      ap (λ a. unless (tested a (is_waiting letter) spent) (opening (view s u).held)) held
      ∙ ap (λ b. unless (tested false b spent) (opening (view s u).held)) waits
      ∙ ap (λ c. unless (tested false false c) (opening (view s u).held)) some_left
      ∙ ap opening (none_there (view s u).held held)
      ∙ ap (λ r. Ok (answered s u host (everyone s) (opened_in (view s u) s.me r))) (sym next)

-- ---- a question for the unit

module _ (s : State) (u : ℕ) where
  pub held_question : is_held s u ≡ true → asks s u ≡ Err refusals.Held
  held_question held = by_build (view s u).held held
    where
      by_build : (h : Option Value) → is_some h ≡ true
          → answered_or refusals.Held s u (host_in s.claim) (others s) (on_inquire (view s u) h)
          ≡ Err refusals.Held
      by_build None e = absurd (false≢true e)
      by_build (Some v) e = refl

  -- all others are asked, and the claim stays
  abbrev pub question : Answer
  question = record {
    note = None;
    sends = sent_to (Some (message_of s u bodies.Ask)) (others s);
    job = None;
    claim = s.claim;
  }

  pub open_question : IsMember s → is_held s u ≡ false → asks s u ≡ Ok question
  open_question is held =
      ap (λ h. answered_or refusals.Held s u (host_in s.claim) (others s)
      (on_inquire (view s u) h)) (none_there (view s u).held held)
      ∙ λ i. Ok (record {
        note = None;
        sends = sent_to (Some (message_of s u bodies.Ask)) (others s);
        job = job_kept s u (host_in s.claim) i;
        claim = claim_kept s u is i;
      })

-- a unit waits only with the letter T
pub waits_not : (letter : Letter) → (letter ≡ letters.T → ⊥) → is_waiting letter ≡ false
waits_not letters.T other = absurd (other refl)
waits_not letters.Q other = refl
waits_not letters.B other = refl
waits_not letters.I other = refl
waits_not letters.Ignored other = refl
