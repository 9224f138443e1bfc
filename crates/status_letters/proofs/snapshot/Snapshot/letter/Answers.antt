use Rattle.std.proofs.Common.{◌<◌, ◌∙◌, arith, length, subst, sym}
use Rattle.engine.specs.State.{HasLetter, State}
use Rattle.engine.specs.declared.Letter.TheVariants.{Ignored}
use Rattle.graph.proofs.Lists.{get_or-same}
use Rattle.status_letters.proofs.Told.{has_letter}
use Rattle.status_letters.proofs.snapshot.Snapshot.letter.Goals as goal

pub returns : goal.returns
returns c =
    let letters = c.self.inside.letters.items in
    let p = c.args.position in
    let within = subst (λ (s : State). p < length s.tree) (sym c.self.view_is) c.requires in
    let is = c.index.ensures ∙ get_or-same letters p c.index.result.now Ignored (omega (arith, within, c.self.invariant.each)) in
    subst (λ (s : State). HasLetter s p c.index.result.now) c.self.view_is (rw is (has_letter c.self.invariant p within))
