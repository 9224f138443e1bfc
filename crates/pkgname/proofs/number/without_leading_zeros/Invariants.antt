use Rattle.std.proofs.Common.{◌≡◌, length, true}
use Rattle.std.specs.Char.{is_ascii_digit}
use Rattle.std.specs.List.{list_all}
use Rattle.pkgname.specs.Version.{number_of}
use Rattle.pkgname.proofs.number.without_leading_zeros.Given as goal

abbrev pub invariant-zeros : goal.invariant-zeros
invariant-zeros l = (list_all is_ascii_digit l.digits ≡ true) × (number_of l.digits ≡ number_of l.fn.digits)

abbrev pub decreases-zeros : goal.decreases-zeros
decreases-zeros l = length l.digits
