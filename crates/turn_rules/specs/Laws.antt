-- Laws of the choice.
use Rattle.std.specs.Prelude.{◌≡◌, ℕ, Bool, true, false, None, Some}
use Rattle.datagram_ports.specs.Kept.{Arrived}
use Rattle.node.specs.Step.{Does}
use Rattle.protocol.specs.Given.{Given}
use Rattle.protocol.specs.Member.{IsMember}
use Rattle.protocol.specs.State.{State}
use Rattle.protocol.specs.declared.input.Input.{Input}
use Rattle.protocol.specs.declared.input.Input.TheVariants as inputs
use Rattle.turn_rules.specs.Choice.{Chosen, Here, IsChoice, Made, Who, first_answer}
use Rattle.turn_rules.specs.Pending.{Pending}

-- There is at most one choice.
abbrev pub OnlyOneChoice : Type 0
OnlyOneChoice =
    (here : Here) (count : ℕ) (p : Pending) (made : Made) (who : Who) (came : Arrived)
    (a b : Chosen)
    → IsChoice here count p made who came a → IsChoice here count p made who came b → a ≡ b

-- There is a choice, if each node here has a valid member.
abbrev pub SomeChoice : Type 0
SomeChoice =
    (here : Here) (count : ℕ) (p : Pending) (made : Made) (who : Who) (came : Arrived)
    → ((k : ℕ) (s : State) → here k ≡ Some s → IsMember s)
    → (chosen : Chosen) × IsChoice here count p made who came chosen

-- If nothing is made, there is no answer, whatever claims are open.
abbrev pub NothingMade : Type 0
NothingMade = (here : Here) (count : ℕ) → first_answer here count (λ k. None) ≡ None

-- Whether the input answers a job.
abbrev pub is_answer : Input → Bool
is_answer (inputs.Claim path host above) = false
is_answer (inputs.Built path given) = true
is_answer (inputs.Failed path) = true
is_answer inputs.Nudge = false
is_answer (inputs.Ask path) = false
is_answer (inputs.Message m) = false

-- If a node answers a job, something is made for it, whatever the initiatives are and whatever is
-- received.
abbrev pub AnswersWhatIsMade : Type 0
AnswersWhatIsMade =
    (here : Here) (count : ℕ) (p : Pending) (made : Made) (who : Who) (came : Arrived) (k : ℕ)
    (input : Input)
    → IsChoice here count p made who came (Some (k, Does input)) → is_answer input ≡ true
    → (builds : Given) × (made k ≡ Some builds)
