use Rattle.std.proofs.Common.{◌≡◌, ◌<◌, below_more, arith}
use Rattle.std.proofs.lemmas.Grind.{same_number_lists}
use Rattle.std.specs.Int.Bits.{xor_self}
use Rattle.seals.proofs.Bits.{bit_or-zero, bit_xor-zero}
use Rattle.seals.proofs.comparison.is_same.Goals as goal

pub loop-place-preserved : goal.loop-place-preserved
loop-place-preserved c = record {
  same = λ none.
      let parts = bit_or-zero _ _ none in
      below_more _ _ (c.loop-place.invariant.same parts.0) (bit_xor-zero _ _ parts.1);
  none = λ equal.
      let before = c.loop-place.invariant.none equal in
      rw (before, equal, xor_self);
}

pub returns : goal.returns
returns c = (
  λ zero.
      let none : c.loop-place.difference ≡ 0 = grind (arith, zero) in
      same_number_lists _ _ (omega arith) (λ k below.
      let seen : k < c.loop-place.place = omega arith in
      c.loop-place.invariant.same none k seen),
  λ equal. let none = c.loop-place.invariant.none equal in rw none,
)
