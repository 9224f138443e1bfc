-- Messages and their receivers.
use Rattle.std.specs.Prelude.{ℕ, List, [], Option, None, Some, map}
use Rattle.ballots.specs.Value.{Value}
use Rattle.ballots.specs.declared.message.Message.{Message}
use Rattle.protocol.specs.declared.sends.Send.{Send}

-- the message, if there is one, to each of these members
abbrev pub sent_to : Option (Message Value) → List ℕ → List Send
sent_to None to = []
sent_to (Some message) to = map (λ k. record { to = k; message = message }) to

-- the receivers of what is sent
abbrev pub receivers_of : List Send → List ℕ
receivers_of sends = map (λ x. x.to) sends
