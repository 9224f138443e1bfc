use Rattle.std.proofs.Common.{◌∙◌, ◌≡◌, ◌<◌, ◌^◌, arith, get_or}
use Rattle.engine.proofs.Bits.{word-before, word-from, word-set}
use Rattle.graph.proofs.Lists.{get_or-same}
use Rattle.engine.proofs.row.Row.first_in.Goals as goal

pub returns-then-word-ne0 : goal.returns-then-word-ne0
returns-then-word-ne0 c =
    let words = c.args.self.now.words.items in
    let start = c.args.start in
    let place = c.loop-place.place in
    let is : c.index-word.result.now ≡ get_or words place 0 = c.index-word.ensures ∙ get_or-same words place _ 0 (omega arith) in
    let fits : c.index-word.result.now < 2 ^ 64 = omega arith in
    let some : 0 < c.index-word.result.now = omega (arith, c.if-word-ne0.true) in (
      word-from words start place _ (omega arith) is some fits,
      word-set words start place _ (omega arith) is some fits,
      word-before words start place _ (omega arith) is some fits c.loop-place.invariant,
    )
