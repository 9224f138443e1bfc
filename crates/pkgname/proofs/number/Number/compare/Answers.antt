use Rattle.std.proofs.Common.{rules, ◌≡◌, length, sym, ◌∙◌}
use Rattle.std.specs.Cmp.Lexicographic.{slice_cmp}
use Rattle.std.specs.Ordering.{nat_cmp, ordering_then}
use Rattle.pkgname.proofs.Digits.{number_cmp}
use Rattle.pkgname.proofs.number.Number.compare.Goals as goal

pub returns : goal.returns
returns c =
    let own = c.without_leading_zeros-own.result.now in
    let others = c.without_leading_zeros-others.result.now in
    let compared : c.then_with.result ≡ ordering_then (nat_cmp (length own) (length others)) (slice_cmp nat_cmp own others) = search rules in
    let as_numbers = number_cmp own others c.without_leading_zeros-own.ensures.digits c.without_leading_zeros-own.ensures.leading c.without_leading_zeros-others.ensures.digits c.without_leading_zeros-others.ensures.leading in
    let same = rw (c.without_leading_zeros-own.ensures.number, c.without_leading_zeros-others.ensures.number) at as_numbers in
    rw (← c.self.view_is, ← c.other.view_is) (compared ∙ sym same)
