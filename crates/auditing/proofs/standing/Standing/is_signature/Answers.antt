use Rattle.std.proofs.Common.{◌∙◌, sym, subst}
use Rattle.std.proofs.lemmas.Bool.{false≢true}
use Rattle.auditing.specs.Allowed.{IsNew}
use Rattle.auditing.specs.inside.Standing.{IsOnlyOneWith}
use Rattle.engine.proofs.Places.{equal_bytes, listed_at, same_bytes}
use Rattle.auditing.proofs.Signatures.{no_signature, one_of_signature, signature_of_one}
use Rattle.auditing.proofs.standing.Standing.is_signature.Goals as goal

pub returns-then-eq : goal.returns-then-eq
returns-then-eq c =
    let dep = c.args.dep.now in
    let entry = c.in-Some.entry.now in
    let path = (listed_at c.args.self.now.tree.now dep.path c.args.position c.requires.listed).1 in
    let one = subst (λ t. IsOnlyOneWith c.args.earlier.now t entry) path c.in-Some.ensures in (
      λ yes.
          signature_of_one c.args.earlier.now dep entry one (same_bytes entry.name dep.name (sym c.if-eq.ensures))
          (same_bytes entry.digest dep.digest (sym c.eq-then-eq.ensures ∙ yes)),
      λ any. c.eq-then-eq.ensures ∙ equal_bytes entry.digest dep.digest (one_of_signature c.args.earlier.now dep entry one any).digest,
    )

pub returns-else-eq : goal.returns-else-eq
returns-else-eq c =
    let dep = c.args.dep.now in
    let entry = c.in-Some.entry.now in
    let path = (listed_at c.args.self.now.tree.now dep.path c.args.position c.requires.listed).1 in
    let one = subst (λ t. IsOnlyOneWith c.args.earlier.now t entry) path c.in-Some.ensures in (
      λ yes. absurd (false≢true (sym c.if-eq.false ∙ yes)),
      λ any. c.eq.ensures ∙ equal_bytes entry.name dep.name (one_of_signature c.args.earlier.now dep entry one any).name,
    )

pub returns-in-None : goal.returns-in-None
returns-in-None c =
    let dep = c.args.dep.now in
    let path = (listed_at c.args.self.now.tree.now dep.path c.args.position c.requires.listed).1 in (
      λ yes. absurd (false≢true yes),
      λ any. absurd (no_signature c.args.earlier.now dep (subst (IsNew c.args.earlier.now) path c.in-None.ensures) any),
    )
