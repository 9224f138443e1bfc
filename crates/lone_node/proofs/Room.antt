-- Whether a log has room for a step's note follows from the node's notes.
use Rattle.std.proofs.Common.{◌≡◌, Option, None, Some, subst, arith}
use Rattle.ballots.specs.declared.message.Note.{Note}
use Rattle.node.proofs.Finishing.{note_is}
use Rattle.node.specs.OnLog.{IsFull, IsLogged, LacksRoom, identity_of, texts_of}
use Rattle.node.specs.State.{LoggedNode}
use Rattle.node.specs.Step.{ReadyStep, note_in, taken_by}
use Rattle.protocol.specs.State.{Value}
use Rattle.stable_record.specs.Log.{gate_place}

-- a log that ends after the node's notes lacks room if the notes imply it
lack_of_full : {D : Type 0} (n : LoggedNode D)
    → n.log.end ≡ gate_place (identity_of n.node.member) (texts_of n.node.notes)
    → (o : Option (Note Value)) → IsFull n.node o → LacksRoom n.log o
lack_of_full n end None full = full
lack_of_full n end (Some note) full = omega (arith, full, end)

-- so if it has room for a step's note, it isn't full
pub not_full : {D : Type 0} (n : LoggedNode D) → IsLogged n → (r : ReadyStep)
    → ¬ LacksRoom n.log (note_in r.step) → ¬ IsFull n.node (taken_by n.node r).answer.note
not_full n logged r room full = room (subst (LacksRoom n.log) (note_is n.node.member r.step)
    (lack_of_full n logged.end (taken_by n.node r).answer.note full))
