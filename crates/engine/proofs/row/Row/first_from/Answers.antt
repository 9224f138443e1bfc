use Rattle.std.proofs.Common.{◌∙◌, ◌≡◌, ◌<◌, ◌≤◌, ◌+◌, ◌*◌, ◌/◌, ◌%◌, ◌^◌, ℕ, List, Option, None, Some, MatchOption, get_or, ap, inl, inr, arith}
use Rattle.std.proofs.lemmas.Bool.{cases_lt}
use Rattle.engine.proofs.Bits.{bit_in, rest-before, rest-clear, rest-set}
use Rattle.engine.proofs.row.Row.first_from.Goals as goal

-- the lowest set bit in the later words is the lowest from the position on, if the rest of its own
-- word is clear
on_words : (words : List ℕ) (from : ℕ) (o : Option ℕ)
    → ((p : ℕ) → from ≤ p → p < (from / 64 + 1) * 64 → bit_in words p ≡ 0)
    → MatchOption o ((p : ℕ) → (from / 64 + 1) * 64 ≤ p → bit_in words p ≡ 0)
    (λ p. ((from / 64 + 1) * 64 ≤ p) × (bit_in words p ≡ 1) × ((k : ℕ) → (from / 64 + 1) * 64 ≤ k → k < p → bit_in words k ≡ 0))
    → MatchOption o ((p : ℕ) → from ≤ p → bit_in words p ≡ 0)
    (λ p. (from ≤ p) × (bit_in words p ≡ 1) × ((k : ℕ) → from ≤ k → k < p → bit_in words k ≡ 0))
on_words words from None clear later = λ p behind. elim (cases_lt p ((from / 64 + 1) * 64)) [
  | inl here ↦ clear p behind here
  | inr past ↦ later p past
]
on_words words from (Some q) clear (at, set, before) = (
  omega (arith, at),
  set,
  λ p behind earlier. elim (cases_lt p ((from / 64 + 1) * 64)) [
    | inl here ↦ clear p behind here
    | inr past ↦ before p past earlier
  ],
)

pub returns-then-rest-ne0 : goal.returns-then-rest-ne0
returns-then-rest-ne0 c =
    let words = c.args.self.now.words.items in
    let is : c.in-Some.word.now ≡ get_or words (c.args.from / 64) 0 = c.in-Some.ensures.lookup.3.1 0 ∙ ap (λ ws. get_or ws (c.args.from / 64) 0) c.deref.ensures.value in
    let fits : c.in-Some.word.now < 2 ^ 64 = omega arith in
    let some : 0 < c.in-Some.word.now / 2 ^ (c.args.from % 64) = omega (arith, c.if-rest-ne0.true) in (
      omega arith,
      (rest-set words c.args.from c.in-Some.word.now is fits some).1,
      rest-before words c.args.from c.in-Some.word.now is fits some,
    )

pub returns : goal.returns
returns c =
    let words = c.args.self.now.words.items in
    let is : c.in-Some.word.now ≡ get_or words (c.args.from / 64) 0 = c.in-Some.ensures.lookup.3.1 0 ∙ ap (λ ws. get_or ws (c.args.from / 64) 0) c.deref.ensures.value in
    let fits : c.in-Some.word.now < 2 ^ 64 = omega arith in
    on_words words c.args.from c.first_in.result
    (rest-clear words c.args.from c.in-Some.word.now is fits (omega (arith, c.if-rest-ne0.false)))
    c.first_in.ensures
