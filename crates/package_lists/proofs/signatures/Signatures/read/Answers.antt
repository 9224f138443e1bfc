use Rattle.std.proofs.Common.{◌∙◌, sym, subst}
use Rattle.indexmap.proofs.CallerLemmas.{insert_entry-new}
use Rattle.package_lists.specs.inside.Signatures.{IsSignature}
use Rattle.package_lists.proofs.Spelling.{entries_good, found_is, found_there, new_there}
use Rattle.package_lists.proofs.signatures.Signatures.read.Goals as goal

pub returns-in_ok-copy-in-Some-clause-some : goal.returns-in_ok-copy-in-Some-clause-some
returns-in_ok-copy-in-Some-clause-some c =
    subst (IsSignature c.args.text.now) (sym c.in_ok-copy-in-Some.ensures)
    (found_is c.self.inside.read.entries c.args.text.now c.in-Some.known.now c.in-Some.ensures.value c.self.invariant)

pub returns-in_ok-copy-in-Some-clause-kept : goal.returns-in_ok-copy-in-Some-clause-kept
returns-in_ok-copy-in-Some-clause-kept c =
    rw (← c.self.view_is) (found_there c.self.inside.read.entries c.args.text.now c.in-Some.known.now c.in-Some.ensures.value)

pub invariant_of-self-in-None : goal.invariant_of-self-in-None
invariant_of-self-in-None c =
    let d = c.in-Some-2.signature in
    let new = c.in_ok-insert-in-None.ensures.entries ∙ insert_entry-new _ c.self.inside.read c.args.text.now d (sym c.in-None.ensures.value) in
    entries_good c.self.inside.read.entries _ c.args.text.now d new c.self.invariant (rw c.in-Some-2.is at c.in_ok-signature-in-None.ensures.some)

pub returns-in_ok-insert-in-None-clause-kept : goal.returns-in_ok-insert-in-None-clause-kept
returns-in_ok-insert-in-None-clause-kept c =
    let d = c.in-Some-2.signature in
    let new = c.in_ok-insert-in-None.ensures.entries ∙ insert_entry-new _ c.self.inside.read c.args.text.now d (sym c.in-None.ensures.value) in
    new_there c.self.inside.read.entries _ c.args.text.now d new
