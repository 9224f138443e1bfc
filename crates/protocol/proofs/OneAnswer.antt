-- Each input has one answer.
use Rattle.std.proofs.Common.{◌≡◌, ℕ, Option, None, Some, refl, sym, ap, ◌∙◌}
use Rattle.std.specs.List.{slice_index_or}
use Rattle.engine.specs.State.{has_agreed}
use Rattle.engine.specs.declared.Letter.{Letter}
use Rattle.engine.proofs.OneLetter.{only_one_letter}
use Rattle.faults.specs.Bytes.{Text}
use Rattle.engine.specs.Division.{unit_at}
use Rattle.protocol.specs.State.{State, engine_of}
use Rattle.protocol.specs.Laws.{OnlyOneAnswerIsRight}
use Rattle.protocol.specs.Step.{IsLetterOf, at_unit, claims, stranger, unit_in}
use Rattle.protocol.specs.declared.input.Input.TheVariants as inputs

-- a claim depends on the letter of its unit, which is unique
one_claim : (s : State) (path : Text) (host above : ℕ) (k l : Letter) (u : Option ℕ)
    → IsLetterOf s u k → IsLetterOf s u l
    → at_unit (stranger s path) (claims s k host above) u ≡ at_unit (stranger s path)
    (claims s l host above) u
one_claim s path host above k l None shown again = refl
one_claim s path host above k l (Some u) shown again =
    ap (λ letter. claims s letter host above u)
    (only_one_letter s.division.tree (has_agreed (engine_of s))
    (slice_index_or (unit_at s.division u).packages 0 0) k l shown again)

pub one_answer : OnlyOneAnswerIsRight
one_answer s (inputs.Claim path host above) a b is was =
    is.right ∙ one_claim s path host above is.letter was.letter (unit_in s path) is.shown was.shown
    ∙ sym was.right
one_answer s (inputs.Built path given) a b is was = is.right ∙ sym was.right
one_answer s (inputs.Failed path) a b is was = is.right ∙ sym was.right
one_answer s inputs.Nudge a b is was = is.right ∙ sym was.right
one_answer s (inputs.Ask path) a b is was = is.right ∙ sym was.right
one_answer s (inputs.Message m) a b is was = is.right ∙ sym was.right
