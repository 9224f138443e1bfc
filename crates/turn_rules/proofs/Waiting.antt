-- A node whose open claim waits for a build.
use Rattle.std.proofs.Common.{◌≡◌, ℕ, Option, Some, sym, ap, subst, ◌∙◌}
use Rattle.std.specs.Prelude.{option_and_then}
use Rattle.turn_rules.specs.Answering.{answer_of, answer_to, built_of, given_for}
use Rattle.faults.specs.Bytes.{Text}
use Rattle.node.specs.State.{LoggedNode}
use Rattle.node.specs.Step.{Does}
use Rattle.protocol.specs.Given.{Given}
use Rattle.protocol.specs.Jobs.{paths_at}
use Rattle.protocol.specs.Member.{IsMember}
use Rattle.protocol.specs.State.{State, name_at}
use Rattle.turn_rules.proofs.GivenFiles.{whole_given}
use Rattle.turn_rules.specs.CausedSteps.{IsPart, IsCausedStep}
use Rattle.turn_rules.specs.declared.caused_step.CausedStep.{CausedStep}
use Rattle.turn_rules.specs.inside.Answering.{AreParts, IsWaiting}

-- its unit's name, and what is given for it
pub parts_are : (s m : State) → m ≡ s → IsMember s → (u : ℕ) (name : Text) → name ≡ name_at m u
    → (builds : Given) (given : Option Given) → given ≡ given_for builds (paths_at m u)
    → AreParts s u name given
parts_are s m same is u name named builds given files = record {
  member = is;
  named = named ∙ ap (λ x. name_at x u) same;
  whole = whole_given builds (paths_at s u) given
      (files ∙ ap (λ x. given_for builds (paths_at x u)) same);
}

-- its answer is its part in the turn
pub answer_part : {D : Type 0} (n : LoggedNode D) (s m : State) → m ≡ s → (u : ℕ) (builds : Given)
    (given : Option Given) → given ≡ given_for builds (paths_at m u) → (r : CausedStep)
    → (w : IsWaiting s u)
    → IsCausedStep n (Does (built_of s u w.host w.claim given)) r
    → IsPart n (answer_of s builds) (Some r)
answer_part n s m same u builds given files r w readied =
    subst (λ own. IsPart n own (Some r))
    (sym (ap (option_and_then (λ o. answer_to s builds o o.progress)) w.is_open))
    (subst (λ g. IsCausedStep n (Does (built_of s u w.host w.claim g)) r)
    (files ∙ ap (λ x. given_for builds (paths_at x u)) same) readied)
