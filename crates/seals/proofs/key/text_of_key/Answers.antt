use Rattle.std.proofs.Common.{◌∙◌, ap, refl}
use Rattle.hex.proofs.HexLemmas.{decode_sized-encode_lower}
use Rattle.hex.specs.Hex.{decode_sized, encode_lower}
use Rattle.seals.proofs.key.text_of_key.Goals as goal

pub returns-clause-read : goal.returns-clause-read
returns-clause-read c =
    let written = rw c.unwrap.ensures at c.encode_to_slice.ensures.written in
    let digits = written ∙ ap encode_lower c.as_slice.ensures in
    record {
      digits = c.encode_to_slice.new.output;
      is_line = refl;
      are_digits = ap (λ text. decode_sized text 32) digits
          ∙ decode_sized-encode_lower c.args.key.now 32 c.told-key c.fits-key;
    }
