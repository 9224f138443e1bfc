use Rattle.std.proofs.Common.{◌≡◌, ℕ, Bool, subst}
use Rattle.engine.specs.Letters.{IsLetter}
use Rattle.engine.proofs.laws.same_held_same_letters.Goals as goal

pub returns : goal.returns
returns c = λ tree held same p letter agree is_letter.
    let one : held ≡ same = λ i q. agree q i in
    subst (λ (h : ℕ → Bool). IsLetter tree h p letter) one is_letter
