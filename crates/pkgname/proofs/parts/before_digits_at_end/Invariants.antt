use Rattle.std.proofs.Common.{◌≡◌, ◌+◌, drop, length, take, true}
use Rattle.std.specs.Char.{is_ascii_digit}
use Rattle.std.specs.List.{list_all, suffix_len}
use Rattle.pkgname.proofs.parts.before_digits_at_end.Given as goal

abbrev pub invariant-digits : goal.invariant-digits
invariant-digits l = record {
  front : l.text ≡ take (length l.text) l.fn.text;
  counted : length l.text + suffix_len is_ascii_digit l.fn.text ≡ length l.fn.text + suffix_len is_ascii_digit l.text;
  digits : list_all is_ascii_digit (drop (length l.text) l.fn.text) ≡ true;
}

abbrev pub decreases-digits : goal.decreases-digits
decreases-digits l = length l.text
