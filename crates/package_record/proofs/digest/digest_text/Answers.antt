use Rattle.std.proofs.Common.{refl, ◌∙◌, arith}
use Rattle.std.proofs.lemmas.List.{length-set}
use Rattle.hex.specs.Hex.{encode_with}
use Rattle.package_record.proofs.LowerDigits.{one_more_written, whole_written}
use Rattle.package_record.proofs.digest.digest_text.Goals as goal

pub loop-i-init : goal.loop-i-init
unfolding encode_with
loop-i-init c = record { size = refl; written = refl }

pub loop-i-preserved : goal.loop-i-preserved
loop-i-preserved c =
    let size = c.loop-i.invariant.size in
    record {
      size = length-set _ _ _ ∙ length-set _ _ _ ∙ size;
      written = one_more_written c.args.digest.now c.loop-i.text c.loop-i.i c.lower_digit.result c.lower_digit-in-loop-i.result (omega arith) (omega arith) c.lower_digit.ensures c.lower_digit-in-loop-i.ensures c.loop-i.invariant.written;
    }

pub returns-clause-text : goal.returns-clause-text
returns-clause-text c = whole_written _ _ c.loop-i.i c.told-digest c.loop-i.invariant.size c.loop-i-test.false c.loop-i.invariant.written
