use Rattle.std.proofs.Common.{◌∙◌, ap, arith, length}
use Rattle.std.proofs.lemmas.List.{length-set}
use Rattle.engine.proofs.Beginning.{fit_more, none_held_more}
use Rattle.engine.proofs.first.first_letters.Goals as goal

pub loop-position-preserved : goal.loop-position-preserved
loop-position-preserved c =
    let letters = c.loop-position.letters in
    let before = c.loop-position.invariant in
    rw c.set.ensures (record {
      each = length-set letters c.loop-position.position c.first_letter.result ∙ before.each;
      fit = fit_more letters c.loop-position.position c.first_letter.result (omega (arith, c.loop-position-test.true, ap length c.requires.tree, c.len-position-end.ensures.count, before.each))
          c.args.units.now c.args.waits.now c.first_letter.ensures.fits before.fit;
      none_held = none_held_more letters c.loop-position.position c.first_letter.result (omega (arith, c.loop-position-test.true, ap length c.requires.tree, c.len-position-end.ensures.count, before.each))
          c.first_letter.ensures.not_held before.none_held;
    })
