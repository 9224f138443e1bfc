-- The receivers of what is sent.
use Rattle.std.proofs.Common.{◌≡◌, ◌↔◌, ℕ, List, [], ◌∷◌, Option, None, Some, refl, sym, ap}
use Rattle.ballots.specs.Value.{Value}
use Rattle.ballots.specs.declared.message.Message.{Message}
use Rattle.protocol.specs.Sends.{receivers_of, sent_to}

-- the receivers of one message to these members are these members
same_receivers : (message : Message Value) (to : List ℕ)
    → receivers_of (sent_to (Some message) to) ≡ to
same_receivers message [] = refl
same_receivers message (k ∷ ks) = ap (λ to. k ∷ to) (same_receivers message ks)

pub receivers_again : (message : Option (Message Value)) (to : List ℕ) → (message ≡ None → to ≡ [])
    → receivers_of (sent_to message to) ≡ to
receivers_again None to nobody = sym (nobody refl)
receivers_again (Some message) to nobody = same_receivers message to

-- nothing is sent if there is no message or no receiver
pub none_sent : (message : Option (Message Value)) (to : List ℕ) → (message ≡ None) ↔ (to ≡ [])
    → (message ≡ None) ↔ (sent_to message to ≡ [])
none_sent None to nobody = (λ e. refl, λ e. refl)
none_sent (Some m) [] nobody = absurd (let no : Some m ≡ None = nobody.1 refl in cc)
none_sent (Some m) (k ∷ ks) nobody =
    (λ e. absurd (let no : Some m ≡ None = e in cc), λ e. absurd (cc))
