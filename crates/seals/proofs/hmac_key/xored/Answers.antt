use Rattle.std.proofs.Common.{◌<◌, ◌∙◌, arith, bit_xor, get_or, length}
use Rattle.std.proofs.lemmas.List.{get_or_default, length-set}
use Rattle.std.proofs.lemmas.List.Edits.{map_over_more}
use Rattle.seals.proofs.hmac_key.xored.Goals as goal

pub loop-place-preserved : goal.loop-place-preserved
loop-place-preserved c =
    let byte = get_or c.loop-place.xored c.loop-place.place 0 in
    let in_block : c.loop-place.place < length c.args.block.now = omega arith in
    let in_xored : c.loop-place.place < length c.loop-place.xored = omega arith in
    record {
      block = length-set _ _ _ ∙ c.loop-place.invariant.block;
      so_far = map_over_more (λ b. bit_xor b c.args.pad) c.args.block.now c.loop-place.xored
          c.loop-place.place byte in_block c.loop-place.invariant.so_far
          (get_or_default c.loop-place.xored c.loop-place.place 0 byte in_xored);
    }
