use Rattle.std.proofs.Common.{◌≡◌, ◌∙◌, [], ◌∷◌, List, None, Some, ap, refl, sym}
use Rattle.std.specs.Prelude.{option_map}
use Rattle.ballots.specs.declared.message.Message.{Message}
use Rattle.node.specs.Step.{sends_in}
use Rattle.protocol.specs.State.{Value}
use Rattle.protocol.specs.declared.sends.Send.{Send}
use Rattle.simulator.proofs.VoteSent.{message_is}
use Rattle.simulator.proofs.event_effects.message_kind.Goals as goal
use Rattle.simulator.specs.Effects.{kind_of_body, kind_sent}
use Rattle.simulator.specs.inside.Deciding.{message_in}

-- the kind of what is sent is that of the first message
kind_first : (sends : List Send)
    → kind_sent sends ≡ option_map (λ (m : Message Value). kind_of_body m.body) (message_in sends)
kind_first [] = refl
kind_first (s ∷ sends) = refl

pub returns : goal.returns
returns c =
    let message = c.in-Some-message.message.now in
    let first = message_is c.sends.result.now message c.in-Some-message.ensures.sent (λ e.
    let wrong : Some c.in-Some-message.message ≡ None =
    c.in-Some-message.ensures.nobody.1 e in cc) in
    ap (λ k. Some k) c.kind_of_body.ensures
    ∙ sym (kind_first c.sends.result.now
    ∙ ap (option_map (λ (m : Message Value). kind_of_body m.body)) first)
    ∙ ap kind_sent c.sends.ensures ∙ ap (λ s. kind_sent (sends_in s)) c.in-Some.ensures
