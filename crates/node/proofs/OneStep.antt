-- A node has one answer, and the consequences for a step whose note doesn't fit.
use Rattle.std.proofs.Common.{◌≡◌, ⊎_elim, Bool, true, false, None, Ok, Err, Result, if◌then◌else◌, refl, sym, subst, ap, ◌∙◌}
use Rattle.engine.specs.declared.Letter.{Letter}
use Rattle.protocol.proofs.OneAnswer.{one_answer}
use Rattle.protocol.specs.Step.{IsLetterOf, answer, unit_claimed}
use Rattle.protocol.specs.declared.input.Input.{Input}
use Rattle.node.proofs.Finishing.{note_is}
use Rattle.node.specs.Calls.{HasFilled, HasPrepared}
use Rattle.node.specs.OnLog.{LacksRoom}
use Rattle.node.specs.State.{LoggedNode, NodeState}
use Rattle.node.specs.Step.{Asked, Comes, Does, ReadyStep, Taken, Takes, note_in, taken, taken_by}
use Rattle.node.specs.declared.fault.NodeFault.{NodeFault}
use Rattle.node.specs.declared.fault.NodeFault.TheVariants as fault

module _ (n : NodeState) where
  -- the letter for a claim is unique
  alike : (stopped : Bool) (input : Input) (l m : Letter)
      → IsLetterOf n.member (if stopped then None else unit_claimed n.member input) l
      → IsLetterOf n.member (if stopped then None else unit_claimed n.member input) m
      → (if stopped then Err fault.Stopped else taken n.pieces (answer n.member l input))
      ≡ (if stopped then Err fault.Stopped else taken n.pieces (answer n.member m input))
  alike true input l m first second = refl
  alike false input l m first second =
      ap (taken n.pieces)
      (one_answer n.member input (answer n.member l input) (answer n.member m input)
      (record { letter = l; shown = first; right = refl })
      (record { letter = m; shown = second; right = refl }))

  -- so there is one step or one refusal
  pub one_step : (asked : Asked) (a b : Result Taken NodeFault) → Takes n asked a → Takes n asked b → a ≡ b
  one_step (Does input) a b first second =
      first.right_is ∙ alike n.stopped input first.letter second.letter first.shown second.shown ∙ sym second.right_is
  one_step (Comes text) a b first second = first.right_is ∙ sym second.right_is

module _ {D : Type 0} (n : LoggedNode D) (asked : Asked) (filled : HasFilled n asked) (m : NodeState) where
  -- a step without room is not refused before its note is written, unless memory runs out
  pub filled_is_ready : (f : NodeFault) → HasPrepared n.node m asked (Err f) → f ≡ fault.Memory
  filled_is_ready f prepared = ⊎_elim
      (λ memory. memory)
      (λ right.
      let two : Ok filled.step ≡ Err f = one_step n.node asked (Ok filled.step) (Err f) filled.takes (subst (Takes n.node asked) right prepared.takes) in
      absurd (let no : Ok filled.step ≡ Err f = two in cc))
      prepared.given

  -- and the ready step is that one
  pub ready_lacks : (r : ReadyStep) → HasPrepared n.node m asked (Ok (taken_by n.node r)) → LacksRoom n.log (note_in r.step)
  ready_lacks r prepared =
      let two : Ok filled.step ≡ Ok (taken_by n.node r) = one_step n.node asked (Ok filled.step) (Ok (taken_by n.node r)) filled.takes (subst (Takes n.node asked) prepared.given prepared.takes) in
      let same : filled.step ≡ taken_by n.node r = cc in
      subst (LacksRoom n.log) (ap (λ (t : Taken). t.answer.note) same ∙ note_is n.node.member r.step) filled.lacks
