use Rattle.std.proofs.Common.{◌≡◌, ◌∙◌, ℕ, List}
use Rattle.seals.proofs.SealLemmas.{sealed-parts, sealed-short}
use Rattle.seals.specs.Sealed.{sealed}
use Rattle.seals.proofs.seal.Seal.opened.Goals as goal

pub returns-in_err-text-clause-exact : goal.returns-in_err-text-clause-exact
returns-in_err-text-clause-exact c = rw c.from_residual.ensures (λ text.
    sealed-short c.args.self.now text c.args.bytes.now c.in_err-text.ensures.cases)

pub returns-in_err-text-clause-back : goal.returns-in_err-text-clause-back
returns-in_err-text-clause-back c = λ text is.
    absurd (sealed-short c.args.self.now text c.args.bytes.now c.in_err-text.ensures.cases is)

pub returns-then-is_same-clause-back : goal.returns-then-is_same-clause-back
returns-then-is_same-clause-back c = λ text is.
    let cut = c.in_ok-text.ensures.cases in
    (sealed-parts c.args.self.now text c.args.bytes.now _ _ cut.0 cut.1 is).0

pub returns-else-is_same : goal.returns-else-is_same
returns-else-is_same c =
    let unsealed : (text : List ℕ) → ¬ (c.args.bytes.now ≡ sealed c.args.self.now text) =
    λ text is.
    let cut = c.in_ok-text.ensures.cases in
    let parts = sealed-parts c.args.self.now text c.args.bytes.now _ _ cut.0 cut.1 is in
    let same = c.is_same.ensures.1 (c.seal_of.ensures ∙ parts.1) in
    cc (same, c.if-is_same.false) in
    record { exact = unsealed; back = unsealed }
