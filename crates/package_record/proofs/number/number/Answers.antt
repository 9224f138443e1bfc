use Rattle.std.proofs.Common.{sym, get_or}
use Rattle.std.specs.Char.{is_ascii_digit}
use Rattle.std.proofs.lemmas.Int.Digits.{digits_value_more}
use Rattle.std.proofs.lemmas.Str.{digit_value_digit}
use Rattle.package_record.proofs.Numbers.{all_more, saturates}
use Rattle.package_record.proofs.number.number.Goals as goal

pub loop-digit-preserved : goal.loop-digit-preserved
loop-digit-preserved c =
    let text = c.args.text.now in
    let i = c.loop-digit.digit-index in
    record {
      digits = all_more is_ascii_digit text i c.loop-digit-test.true c.loop-digit.invariant.digits (sym c.if-not-is_ascii_digit.ensures.value);
      value = saturates _ _ _ _ _ _ _ (get_or text i 0) _ c.loop-digit.invariant.value c.saturating_mul.ensures c.from.ensures c.saturating_add-number.ensures (digits_value_more 10 text i c.loop-digit-test.true) (digit_value_digit _ c.if-not-is_ascii_digit.ensures.cases);
    }
