use Rattle.std.proofs.Common.{◌∙◌, ◌+◌, ◌<◌, ℕ, List, ap, length, subst, sym}
use Rattle.std.proofs.lemmas.List.{length_push}
use Rattle.engine.specs.Letters.{IsLetter}
use Rattle.engine.specs.declared.Letter.{Letter}
use Rattle.engine.specs.shared.Shown.{letter_at}
use Rattle.graph.specs.Marks.{has_mark}
use Rattle.listing.specs.Tree.{Tree}
use Rattle.status_letters.proofs.Told.{letters_more}
use Rattle.status_letters.proofs.lettering.letters_of.Goals as goal

pub loop-position-preserved : goal.loop-position-preserved
loop-position-preserved c =
    let tree = c.args.tree.now in
    let held = has_mark c.args.held.now in
    let at = c.loop-position in
    let letter = c.letter_of.result in
    let here = subst (λ (t : Tree). IsLetter t held at.position letter) c.requires.units c.letter_of.ensures in
    record {
      each = ap length c.in_ok-push.ensures.items ∙ length_push at.letters.items letter ∙ ap (λ n. n + 1) at.invariant.each;
      are = subst (λ (ls : List Letter). (q : ℕ) → q < at.position + 1 → IsLetter tree held q (letter_at ls q)) (sym c.in_ok-push.ensures.items)
          (letters_more tree held at.letters.items at.position letter at.invariant.each at.invariant.are here);
    }
