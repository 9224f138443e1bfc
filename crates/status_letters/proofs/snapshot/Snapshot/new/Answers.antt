use Rattle.std.proofs.Common.{◌∙◌, subst, sym}
use Rattle.listing.specs.Tree.{Tree}
use Rattle.status_letters.specs.inside.Keeping.{AreShown}
use Rattle.status_letters.proofs.Told.{are_shown, held_marked, shown_agreed}
use Rattle.status_letters.proofs.snapshot.Snapshot.new.Goals as goal

pub invariant_of-result : goal.invariant_of-result
invariant_of-result c =
    let letters = c.in_ok-letters in
    subst (λ (t : Tree). AreShown t letters.letters.items) (sym c.requires.units)
    (are_shown c.args.tree.now letters.ensures.tree c.args.held.now letters.letters.items c.requires.each letters.ensures.each letters.ensures.letters)

pub returns-clause-held : goal.returns-clause-held
returns-clause-held c =
    let letters = c.in_ok-letters in
    λ p. shown_agreed c.args.units.tree letters.letters.items p
    ∙ held_marked c.args.tree.now letters.ensures.tree c.args.held.now letters.letters.items c.requires.each letters.ensures.each letters.ensures.letters p
