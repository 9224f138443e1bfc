use Rattle.std.proofs.Common.{◌∙◌, ◌/◌, ◌%◌, ap, sym, w64, arith}
use Rattle.std.specs.Int.{bit_at}
use Rattle.std.proofs.lemmas.Nat.Bits.{bit_at_clear_other, bit_at_clear_same, bit_at_set_other, bit_at_set_same}
use Rattle.graph.specs.Lists.{one_if}
use Rattle.engine.proofs.Bits.{bit-other, bit-put}
use Rattle.graph.proofs.Lists.{get_or-same}
use Rattle.engine.proofs.row.Row.put.Goals as goal

pub returns-then-bit-clause-here : goal.returns-then-bit-clause-here
returns-then-bit-clause-here c =
    bit-put c.args.self.now.words.items c.args.position _ _ c.requires (bit_at_set_same w64 _ (c.args.position % 64) (omega arith) ∙ sym (ap one_if c.if-bit.true))

pub returns-then-bit-clause-others : goal.returns-then-bit-clause-others
returns-then-bit-clause-others c = λ p other.
    bit-other c.args.self.now.words.items c.args.position _ p c.requires other (λ i below apart.
    bit_at_set_other w64 _ (c.args.position % 64) (omega arith) i apart
    ∙ ap (λ w. bit_at w i) (c.index_mut-word.ensures.value ∙ get_or-same c.args.self.now.words.items (c.args.position / 64) _ 0 c.requires))

pub returns-else-bit-clause-here : goal.returns-else-bit-clause-here
returns-else-bit-clause-here c =
    bit-put c.args.self.now.words.items c.args.position _ _ c.requires (bit_at_clear_same w64 _ (c.args.position % 64) (omega arith) ∙ sym (ap one_if c.if-bit.false))

pub returns-else-bit-clause-others : goal.returns-else-bit-clause-others
returns-else-bit-clause-others c = λ p other.
    bit-other c.args.self.now.words.items c.args.position _ p c.requires other (λ i below apart.
    bit_at_clear_other w64 _ (c.args.position % 64) (omega arith) i below apart
    ∙ ap (λ w. bit_at w i) (c.index_mut-word.ensures.value ∙ get_or-same c.args.self.now.words.items (c.args.position / 64) _ 0 c.requires))
