use Rattle.std.proofs.Common.{◌≡◌, ◌+◌, ◌*◌, ◌%◌, refl, ◌∙◌, arith}
use Rattle.std.proofs.lemmas.List.{length-set}
use Rattle.hex.specs.Hex.{encode_with}
use Rattle.package_record.proofs.LowerDigits.{both_found, decoded_bytes, one_more_byte, one_more_read, whole_read}
use Rattle.package_record.proofs.digest.digest_of.Goals as goal

pub loop-i-init : goal.loop-i-init
unfolding encode_with
loop-i-init c = record {
  size = refl;
  fits = λ i. omega arith;
  read = λ small. refl;
  found = λ bytes fits written. omega arith;
}

pub loop-i-preserved : goal.loop-i-preserved
loop-i-preserved c =
    let text = c.args.text.now in
    let i = c.loop-i.i in
    let high = c.digit_value-high.result in
    let low = c.digit_value-low.result in
    let size = c.loop-i.invariant.size in
    record {
      size = length-set _ _ _ ∙ size;
      fits = one_more_byte _ i _ (omega arith) (omega arith) c.loop-i.invariant.fits;
      read = λ small.
          let byte : (high * 16 % 256 + low) % 256 ≡ high * 16 + low = omega arith in
          rw byte (one_more_read text _ i high low (omega arith) (omega arith) (omega arith) (c.digit_value-high.ensures.reads (omega arith)) (c.digit_value-low.ensures.reads (omega arith)) (c.loop-i.invariant.read (omega arith)));
      found = λ bytes fits written.
          let both = both_found text bytes i high low fits written (omega arith) c.digit_value-high.ensures.finds c.digit_value-low.ensures.finds in
          let before = c.loop-i.invariant.found bytes fits written in
          omega arith;
    }

pub returns-then-greatest-lt16-clause-some : goal.returns-then-greatest-lt16-clause-some
returns-then-greatest-lt16-clause-some c =
    whole_read _ _ c.loop-i.i c.loop-i.invariant.size c.if-text-ne64.false c.loop-i-test.false c.loop-i.invariant.fits (c.loop-i.invariant.read c.if-greatest-lt16.true)

pub returns-else-greatest-lt16-clause-none : goal.returns-else-greatest-lt16-clause-none
returns-else-greatest-lt16-clause-none c digest read written =
    let small = c.loop-i.invariant.found digest (decoded_bytes c.args.text.now digest read).1 written in
    absurd (omega arith)
