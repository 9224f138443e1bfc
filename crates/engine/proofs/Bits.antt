-- A row of bits, one of which is set or cleared.
use Rattle.std.proofs.Common.{◌≡◌, ◌≢◌, ◌+◌, ◌-◌, ◌*◌, ◌/◌, ◌%◌, ◌<◌, ◌≤◌, ◌^◌, ℕ, false, List, get_or, length, set, refl, ap, sym, ◌∙◌, inl, inr, arith, w64}
use Rattle.std.specs.Int.{bit_at, trailing_zeros}
use Rattle.std.proofs.lemmas.Bool.{cases_eq, cases_lt}
use Rattle.std.proofs.lemmas.List.{get_or-set_other, get_or-set_same, get_or_past, length-set}
use Rattle.std.proofs.lemmas.Nat.{shr-shr, shr_le}
use Rattle.std.proofs.lemmas.Nat.Bits.{bit_at-trailing_zeros, bit_at-zero, bit_at_above}
use Rattle.engine.specs.declared.Letter.{Letter}
use Rattle.engine.specs.declared.Letter.TheVariants.{T, Q, B, I, Ignored}
use Rattle.engine.specs.declared.row.Row.{Row}
use Rattle.graph.specs.Lists.{one_if}
use Rattle.engine.specs.inside.Row.{HasQueued, bit_of, is_queued}
use Rattle.engine.specs.shared.Shown.{letter_at}

-- the bit of a position in the words
abbrev pub bit_in : List ℕ → ℕ → ℕ
bit_in words p = bit_at (get_or words (p / 64) 0) (p % 64)

pub bit-put : (words : List ℕ) (p v b : ℕ) → p / 64 < length words → bit_at v (p % 64) ≡ b → bit_in (set words (p / 64) v) p ≡ b
bit-put words p v b within is = ap (λ w. bit_at w (p % 64)) (get_or-set_same words (p / 64) v 0 within) ∙ is

pub bit-other : (words : List ℕ) (p v q : ℕ) → p / 64 < length words → q ≢ p
    → ((i : ℕ) → i < 64 → i ≢ p % 64 → bit_at v i ≡ bit_at (get_or words (p / 64) 0) i) → bit_in (set words (p / 64) v) q ≡ bit_in words q
bit-other words p v q within other same = elim (cases_eq (q / 64) (p / 64)) [
  | inl together ↦
      let e : get_or (set words (p / 64) v) (q / 64) 0 ≡ v = ap (λ k. get_or (set words (p / 64) v) k 0) together ∙ get_or-set_same words (p / 64) v 0 within in
      ap (λ w. bit_at w (q % 64)) e ∙ same (q % 64) (omega arith) (λ e. other (omega (arith, e, together))) ∙ ap (λ k. bit_at (get_or words k 0) (q % 64)) (sym together)
  | inr apart ↦ ap (λ w. bit_at w (q % 64)) (get_or-set_other words (p / 64) (q / 64) v 0 apart)
]

-- the bits of a word that is not 0, from its first position on
module _ (words : List ℕ) (start n w : ℕ) (within : start ≤ n) (is : w ≡ get_or words n 0) (some : 0 < w) (fits : w < 2 ^ 64) where
  pub word-from : start * 64 ≤ n * 64 + trailing_zeros w64 w
  word-from = omega (arith, within)

  pub word-set : bit_in words (n * 64 + trailing_zeros w64 w) ≡ 1
  word-set =
      let lowest = bit_at-trailing_zeros w64 w some fits in
      let place : (n * 64 + trailing_zeros w64 w) / 64 ≡ n = omega (arith, lowest.0) in
      let bit : (n * 64 + trailing_zeros w64 w) % 64 ≡ trailing_zeros w64 w = omega (arith, lowest.0) in
      rw (place, bit, ← is) lowest.1

  pub word-before : ((k : ℕ) → start ≤ k → k < n → get_or words k 0 ≡ 0) → (p : ℕ) → start * 64 ≤ p → p < n * 64 + trailing_zeros w64 w → bit_in words p ≡ 0
  word-before none p behind before = elim (cases_lt (p / 64) n) [
    | inl earlier ↦ ap (λ v. bit_at v (p % 64)) (none (p / 64) (omega (arith, behind)) earlier) ∙ bit_at-zero (p % 64)
    | inr past ↦
        let lowest = bit_at-trailing_zeros w64 w some fits in
        let place : p / 64 ≡ n = omega (arith, lowest.0, past, before) in
        ap (λ v. bit_at v (p % 64)) (ap (λ k. get_or words k 0) place ∙ sym is) ∙ lowest.2 (p % 64) (omega (arith, place, before))
  ]

-- if all words are 0, no bit is set
pub words-clear : (words : List ℕ) (start : ℕ) → ((k : ℕ) → start ≤ k → k < length words → get_or words k 0 ≡ 0) → (p : ℕ) → start * 64 ≤ p → bit_in words p ≡ 0
words-clear words start none p behind = elim (cases_lt (p / 64) (length words)) [
  | inl within ↦ ap (λ v. bit_at v (p % 64)) (none (p / 64) (omega (arith, behind)) within) ∙ bit_at-zero (p % 64)
  | inr past ↦ ap (λ v. bit_at v (p % 64)) (get_or_past words (p / 64) 0 past) ∙ bit_at-zero (p % 64)
]

-- the bits of a word from one of its positions on
module _ (words : List ℕ) (from w : ℕ) (is : w ≡ get_or words (from / 64) 0) (fits : w < 2 ^ 64) where
  abbrev rest : ℕ
  rest = w / 2 ^ (from % 64)

  rest-bit : (i : ℕ) → from % 64 + i < 64 → bit_in words (from + i) ≡ bit_at rest i
  rest-bit i below =
      let place : (from + i) / 64 ≡ from / 64 = omega (arith, below) in
      let bit : (from + i) % 64 ≡ from % 64 + i = omega (arith, below) in
      ap (λ k. bit_at (get_or words k 0) ((from + i) % 64)) place ∙ ap (λ v. bit_at v ((from + i) % 64)) (sym is) ∙ ap (bit_at w) bit
      ∙ sym (ap (λ v. v % 2) (shr-shr w (from % 64) i))

  -- the rest of a word has no bits beyond the word's last bit
  rest-within : (i : ℕ) → bit_at rest i ≡ 1 → from % 64 + i < 64
  rest-within i set = elim (cases_lt (from % 64 + i) 64) [
    | inl below ↦ below
    | inr past ↦ absurd (omega (arith, set, ap (λ v. v % 2) (shr-shr w (from % 64) i), bit_at_above w 64 (from % 64 + i) fits past))
  ]

  rest-fits : rest < 2 ^ 64
  rest-fits = omega (arith, fits, shr_le w (from % 64))

  pub rest-set : 0 < rest → (from % 64 + trailing_zeros w64 rest < 64) × (bit_in words (from + trailing_zeros w64 rest) ≡ 1)
  rest-set some =
      let lowest = bit_at-trailing_zeros w64 rest some rest-fits in
      let below = rest-within (trailing_zeros w64 rest) lowest.1 in
      (below, rest-bit (trailing_zeros w64 rest) below ∙ lowest.1)

  pub rest-before : 0 < rest → (p : ℕ) → from ≤ p → p < from + trailing_zeros w64 rest → bit_in words p ≡ 0
  rest-before some p behind before =
      let lowest = bit_at-trailing_zeros w64 rest some rest-fits in
      let below = (rest-set some).0 in
      let e : p ≡ from + (p - from) = omega (arith, behind) in
      let within : p - from < trailing_zeros w64 rest = omega (arith, behind, before) in
      ap (bit_in words) e ∙ rest-bit (p - from) (omega (arith, within, below)) ∙ lowest.2 (p - from) within

  pub rest-clear : rest ≡ 0 → (p : ℕ) → from ≤ p → p < (from / 64 + 1) * 64 → bit_in words p ≡ 0
  rest-clear none p behind before =
      let e : p ≡ from + (p - from) = omega (arith, behind) in
      ap (bit_in words) e ∙ rest-bit (p - from) (omega (arith, behind, before)) ∙ ap (λ v. bit_at v (p - from)) none ∙ bit_at-zero (p - from)

-- a letter is replaced, and its bit is updated
pub HasQueued-set : (letters : List Letter) (row now : Row) (p : ℕ) (letter : Letter) → p < length letters → HasQueued letters row
    → length now.words.items ≡ length row.words.items → bit_of now p ≡ one_if (is_queued letter) → ((q : ℕ) → q ≢ p → bit_of now q ≡ bit_of row q)
    → HasQueued (set letters p letter) now
HasQueued-set letters row now p letter within has each here others = record {
  room = omega (arith, each, has.room, length-set letters p letter);
  bits = λ q. elim (cases_eq q p) [
    | inl same ↦ ap (bit_of now) same ∙ here ∙ sym (ap (λ l. one_if (is_queued l)) (ap (letter_at (set letters p letter)) same ∙ get_or-set_same letters p letter Ignored within))
    | inr other ↦ others q other ∙ has.bits q ∙ sym (ap (λ l. one_if (is_queued l)) (get_or-set_other letters p q letter Ignored other))
  ];
}

pub not_queued : (l : Letter) → l ≢ Q → is_queued l ≡ false
not_queued T other = refl
not_queued Q other = absurd (other refl)
not_queued B other = refl
not_queued I other = refl
not_queued Ignored other = refl
