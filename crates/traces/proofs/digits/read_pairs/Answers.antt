use Rattle.std.proofs.Common.{◌≡◌, ◌+◌, ◌*◌, ◌%◌, length, ◌∙◌, arith}
use Rattle.std.proofs.lemmas.List.{length-set}
use Rattle.std.specs.Prelude.{slice_index}
use Rattle.hex.proofs.HexLemmas.{decode_of-even}
use Rattle.hex.proofs.Pairs.{decode_done, decode_step}
use Rattle.traces.proofs.Pairs.{pair_read}
use Rattle.traces.proofs.digits.read_pairs.Goals as goal

pub pairs-preserved : goal.pairs-preserved
pairs-preserved c =
    let text = c.args.text.now in
    let at = c.pairs.place in
    let high = c.digit-high.result in
    let low = c.digit-low.result in
    let before = c.pairs.invariant in
    record {
      each = length-set _ _ _ ∙ before.each;
      read = λ small.
          let byte : (high * 16 % 256 + low) % 256 ≡ high * 16 + low = omega arith in
          let pair = pair_read (slice_index text (2 * at)) (slice_index text (2 * at + 1)) high low (2 * at) c.digit-high.ensures c.digit-low.ensures (omega arith) (omega arith) in
          rw byte (decode_step text c.pairs.bytes at (high * 16 + low) (omega arith) (omega arith) pair (before.read (omega arith)));
    }

pub returns : goal.returns
returns c = λ small.
    let text = c.args.text.now in
    let even : length text % 2 ≡ 0 = omega arith in
    decode_of-even text even ∙ decode_done text c.pairs.bytes c.pairs.place (omega arith) (omega arith) (c.pairs.invariant.read small)
