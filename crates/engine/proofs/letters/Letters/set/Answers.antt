use Rattle.std.proofs.Common.{◌≡◌, ◌<◌, ◌∙◌, List, ap, arith, length, subst, sym}
use Rattle.engine.specs.declared.Letter.{Letter}
use Rattle.std.proofs.lemmas.List.{length-set}
use Rattle.graph.specs.Lists.{one_if}
use Rattle.engine.specs.inside.Row.{is_queued}
use Rattle.engine.proofs.Bits.{HasQueued-set, not_queued}
use Rattle.engine.proofs.Shown.{counts-set}
use Rattle.engine.proofs.letters.Letters.set.Goals as goal
use Rattle.engine.proofs.letters.Letters.set.Goals.{in-Q, in_default}

pub invariant_of-self : goal.invariant_of-self
invariant_of-self c =
    let letters = c.self.inside.letters.items in
    let within = subst (λ (ls : List Letter). c.args.position < length ls) (sym c.self.view_is) c.requires in
    let bit : c.match-matches.matches ≡ is_queued c.args.letter = elim c.match-matches.branch [
      | in-Q w ↦ w.matches-is ∙ sym (ap is_queued w.in-Q.is)
      | in_default w ↦ w.matches-is ∙ sym (not_queued c.args.letter w.in_default.not-Q)
    ] in (
      counts-set letters c.args.position c.index.result.now c.args.letter c.self.inside.counts c.take.new.self c.add.new.self within c.self.invariant.0 c.index.ensures c.take.ensures c.add.ensures,
      omega (arith, length-set letters c.args.position c.args.letter, c.self.invariant.1),
      HasQueued-set letters c.self.inside.queued c.put.new.self c.args.position c.args.letter within c.self.invariant.2 c.put.ensures.room (c.put.ensures.here ∙ ap one_if bit) c.put.ensures.others,
    )
