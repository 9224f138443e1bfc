use Rattle.std.proofs.Common.{◌≡◌, ◌<◌, ℕ, List, None, Some, length, slice_get, sym, subst, ap, ◌∙◌}
use Rattle.faults.specs.Bytes.{Text}
use Rattle.simulator.proofs.VoteSent.{has_sender, message_is, text_of_vote}
use Rattle.simulator.specs.inside.Deciding.{sender_place}
use Rattle.simulator.proofs.votes.decided.Goals as goal

pub voters-requires : goal.voters-requires
voters-requires c =
    let message = c.in-Some-message.message.now in
    let said = message_is c.sends.result.now message c.in-Some-message.ensures.sent (λ e.
    let wrong : Some c.in-Some-message.message ≡ None =
    c.in-Some-message.ensures.nobody.1 e in cc) in
    let first = c.in-Some-get.ensures
    ∙ ap (λ (l : List (ℕ × Text)). slice_get l 0) c.sends-2.ensures in
    subst (λ (t : Text). sender_place < length t)
    (sym (text_of_vote c.args.ready.now.step c.in-Some.step.now c.sends.result.now message
    c.in-Some-claim_of.claim c.in-Some-get.field-0-0 c.in-Some-get.vote.now
    (sym c.in-Some.ensures) c.sends.ensures said (sym c.in-Some-claim_of.ensures) first))
    (has_sender message)
