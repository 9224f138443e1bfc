-- Numbers as bytes.
use Rattle.std.proofs.Common.{◌≡◌, ℕ, zero, suc, ◌+◌, ◌*◌, ◌^◌, ◌<◌, ◌≤◌, List, [], ◌∷◌, length, refl, sym, ap, ◌∙◌, arith, inl, inr}
use Rattle.std.proofs.Math.Nat.{mod-lt, mul-le-mul_right}
use Rattle.std.proofs.lemmas.Bool.{cases_lt}
use Rattle.std.proofs.lemmas.List.{append-nil}
use Rattle.std.specs.Int.{byte_at}
use Rattle.byteorder.specs.Endian.{big_bytes, big_number}
use Rattle.byteorder.specs.Numbers.{big_from-cons, big_from-lt, big_number-reads_back, length-bytes_high_first}
use Rattle.wire.specs.Laws.{AreBytes}

-- ---- a number's bytes

pub length-big_bytes : (n x : ℕ) → length (big_bytes n x) ≡ n
length-big_bytes n x = length-bytes_high_first n x

pub big_number-big_bytes : (n x : ℕ) → x < 256 ^ n → big_number n (big_bytes n x) ≡ x
big_number-big_bytes n x small = ap (big_number n) (sym (append-nil (big_bytes n x))) ∙ big_number-reads_back n x [] small

byte_at_small : (k x : ℕ) → byte_at k x < 256
byte_at_small zero x = mod-lt x (omega arith)
byte_at_small (suc k) x = mod-lt _ (omega arith)

pub are_bytes-big_bytes : (n x : ℕ) → AreBytes (big_bytes n x)
are_bytes-big_bytes zero x k = omega arith
are_bytes-big_bytes (suc n) x zero = byte_at_small n x
are_bytes-big_bytes (suc n) x (suc k) = are_bytes-big_bytes n x k

-- ---- numbers of equal length differ in some byte

digit_below : (p x y a b : ℕ) → a < p → x < y → x * p + a ≡ y * p + b → ⊥
digit_below p x y a b small less same =
    let most : (x + 1) * p ≤ y * p = mul-le-mul_right p (omega arith) in
    omega arith

digits_are : (p x y a b : ℕ) → a < p → b < p → x * p + a ≡ y * p + b → (x ≡ y) × (a ≡ b)
digits_are p x y a b small other same = elim (cases_lt x y) [
  | inl less ↦ absurd (digit_below p x y a b small less same)
  | inr up ↦ elim (cases_lt y x) [
    | inl less ↦ absurd (digit_below p y x b a other less (sym same))
    | inr down ↦ let e : x ≡ y = omega arith in (e, omega (arith, ap (λ (z : ℕ). z * p) e))
  ]
]

same_number : (n : ℕ) (xs ys : List ℕ) → length xs ≡ n → length ys ≡ n → AreBytes xs → AreBytes ys → big_number n xs ≡ big_number n ys → xs ≡ ys
same_number zero [] [] lx ly bx by same = refl
same_number zero [] (y ∷ ys) lx ly bx by same = absurd (omega arith)
same_number zero (x ∷ xs) ys lx ly bx by same = absurd (omega arith)
same_number (suc n) [] ys lx ly bx by same = absurd (omega arith)
same_number (suc n) (x ∷ xs) [] lx ly bx by same = absurd (omega arith)
same_number (suc n) (x ∷ xs) (y ∷ ys) lx ly bx by same =
    let tail : (b : ℕ) (bs : List ℕ) → AreBytes (b ∷ bs) → AreBytes bs = λ b bs bytes k. bytes (suc k) in
    let parts = digits_are (256 ^ n) x y (big_number n xs) (big_number n ys) (big_from-lt 0 n xs (tail x xs bx)) (big_from-lt 0 n ys (tail y ys by))
    (ap (λ (r : ℕ). x * 256 ^ n + r) (sym (big_from-cons 0 n x xs)) ∙ same ∙ ap (λ (r : ℕ). y * 256 ^ n + r) (big_from-cons 0 n y ys)) in
    let rest = same_number n xs ys (omega arith) (omega arith) (tail x xs bx) (tail y ys by) parts.1 in
    ap (λ (z : ℕ). z ∷ xs) parts.0 ∙ ap (λ (zs : List ℕ). y ∷ zs) rest

-- bytes are those of the number that they encode
pub big_bytes-big_number : (n : ℕ) (xs : List ℕ) → length xs ≡ n → AreBytes xs → big_bytes n (big_number n xs) ≡ xs
big_bytes-big_number n xs size bytes =
    same_number n (big_bytes n (big_number n xs)) xs (length-big_bytes n (big_number n xs)) size (are_bytes-big_bytes n (big_number n xs)) bytes
    (big_number-big_bytes n (big_number n xs) (big_from-lt 0 n xs bytes))
