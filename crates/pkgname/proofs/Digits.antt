-- Digits without leading zeros compare as numbers by their length, and then by their bytes.
use Rattle.std.proofs.Common.{◌≡◌, ℕ, ◌+◌, ◌*◌, ◌<◌, ◌≤◌, ◌==◌, true, not, List, [], ◌∷◌, length, slice_index, refl, sym, arith, inl, inr, Less, Equal, Greater}
use Rattle.std.proofs.lemmas.Bool.{cases_lt}
use Rattle.std.specs.Char.{digit_value, is_ascii_digit}
use Rattle.std.specs.Cmp.{nat_cmp_is}
use Rattle.std.specs.Cmp.Lexicographic.{slice_cmp}
use Rattle.std.specs.List.{list_all}
use Rattle.std.specs.Ordering.{nat_cmp, ordering_then}
use Rattle.std.specs.Str.Parse.{digits_value_after}
use Rattle.pkgname.specs.Version.{number_of}

-- ---- one digit

-- a digit's byte is that of 0 and its value
digit_is : (x : ℕ) → is_ascii_digit x ≡ true → x ≡ 48 + digit_value x
digit_is x h = grind arith

-- a digit's value is below ten
digit_below_ten : (x : ℕ) → is_ascii_digit x ≡ true → digit_value x < 10
digit_below_ten x h = grind arith

-- ---- several digits

-- the first one is a digit
first_digit : (x : ℕ) (xs : List ℕ) → list_all is_ascii_digit (x ∷ xs) ≡ true → is_ascii_digit x ≡ true
first_digit x xs h = grind arith

-- the others are digits
other_digits : (x : ℕ) (xs : List ℕ) → list_all is_ascii_digit (x ∷ xs) ≡ true → list_all is_ascii_digit xs ≡ true
other_digits x xs h = grind arith

-- a number doesn't get smaller with more digits after it
grows : (n : ℕ) (xs : List ℕ) → n ≤ digits_value_after 10 n xs
grows n [] = omega arith
grows n (x ∷ xs) = omega (arith, grows (n * 10 + digit_value x) xs)

-- a smaller front gives a smaller number, if no more digits follow it
less : (xs ys : List ℕ) (m n : ℕ) → m < n → length xs ≤ length ys → list_all is_ascii_digit xs ≡ true → digits_value_after 10 m xs < digits_value_after 10 n ys
less [] ys m n lt le d = omega (arith, grows n ys)
less (x ∷ xs) [] m n lt le d = absurd (omega arith)
less (x ∷ xs) (y ∷ ys) m n lt le d =
    let small = digit_below_ten x (first_digit x xs d) in
    less xs ys (m * 10 + digit_value x) (n * 10 + digit_value y) (omega arith) (omega arith) (other_digits x xs d)

-- numbers with the same front and the same number of digits compare by their bytes
level : (xs ys : List ℕ) (m : ℕ) → length xs ≡ length ys → list_all is_ascii_digit xs ≡ true → list_all is_ascii_digit ys ≡ true
    → nat_cmp (digits_value_after 10 m xs) (digits_value_after 10 m ys) ≡ slice_cmp nat_cmp xs ys
level [] [] m e d f = sym (nat_cmp_is m m Equal refl)
level [] (y ∷ ys) m e d f = absurd (omega arith)
level (x ∷ xs) [] m e d f = absurd (omega arith)
level (x ∷ xs) (y ∷ ys) m e d f =
    let x_is = digit_is x (first_digit x xs d) in
    let y_is = digit_is y (first_digit y ys f) in
    elim (cases_lt x y) [
      | inl below ↦
          rw (← nat_cmp_is x y Less below) (sym (nat_cmp_is _ _ Less (less xs ys (m * 10 + digit_value x) (m * 10 + digit_value y) (omega arith) (omega arith) (other_digits x xs d))))
      | inr from ↦ elim (cases_lt y x) [
        | inl above ↦
            rw (← nat_cmp_is x y Greater above) (sym (nat_cmp_is _ _ Greater (less ys xs (m * 10 + digit_value y) (m * 10 + digit_value x) (omega arith) (omega arith) (other_digits y ys f))))
        | inr upto ↦
            let same : x ≡ y = omega arith in
            rw (← nat_cmp_is x y Equal same, same) (level xs ys (m * 10 + digit_value y) (omega arith) (other_digits x xs d) (other_digits y ys f))
      ]
    ]

-- fewer digits are a smaller number, if the others don't begin with 0
shorter : (xs ys : List ℕ) → length xs < length ys → list_all is_ascii_digit xs ≡ true → list_all is_ascii_digit ys ≡ true → not (slice_index ys 0 == 48) ≡ true
    → number_of xs < number_of ys
shorter xs [] lt d f leading = absurd (omega arith)
shorter xs (y ∷ ys) lt d f leading =
    let y_is = digit_is y (first_digit y ys f) in
    let some : 0 < digit_value y = grind arith in
    less xs ys 0 (0 * 10 + digit_value y) (omega arith) (omega arith) d

-- without leading zeros, numbers compare by the number of digits, and then by their bytes
pub number_cmp : (xs ys : List ℕ) → list_all is_ascii_digit xs ≡ true → not (slice_index xs 0 == 48) ≡ true → list_all is_ascii_digit ys ≡ true → not (slice_index ys 0 == 48) ≡ true
    → nat_cmp (number_of xs) (number_of ys) ≡ ordering_then (nat_cmp (length xs) (length ys)) (slice_cmp nat_cmp xs ys)
number_cmp xs ys d leading f other_leading = elim (cases_lt (length xs) (length ys)) [
  | inl fewer ↦ rw (← nat_cmp_is (length xs) (length ys) Less fewer) (sym (nat_cmp_is _ _ Less (shorter xs ys fewer d f other_leading)))
  | inr from ↦ elim (cases_lt (length ys) (length xs)) [
    | inl more ↦ rw (← nat_cmp_is (length xs) (length ys) Greater more) (sym (nat_cmp_is _ _ Greater (shorter ys xs more f d leading)))
    | inr upto ↦
        let as_many : length xs ≡ length ys = omega arith in
        rw (← nat_cmp_is (length xs) (length ys) Equal as_many) (level xs ys 0 as_many d f)
  ]
]
