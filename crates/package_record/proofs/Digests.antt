-- The bytes of a digest.
use Rattle.std.proofs.Common.{ℕ, zero, suc, ◌-◌, ◌<◌, List, ◌++◌, length, refl, arith, inl, inr, slice_index}
use Rattle.std.specs.Int.{byte_at, bytes_high_first, to_be_bytes, w32}
use Rattle.std.proofs.lemmas.Bool.{cases_lt}
use Rattle.std.proofs.lemmas.List.{get_or-append_right}
use Rattle.std.proofs.Math.ListN.{get_or-append}
use Rattle.hex.specs.Hex.{IsBytes}
use Rattle.sha2.specs.Sha256.{digest_bytes, sha256}

byte_below : (k n : ℕ) → byte_at k n < 256
byte_below zero n = omega arith
byte_below (suc k) n = omega arith

-- those of a number
number_bytes : (k n : ℕ) → IsBytes (bytes_high_first k n)
number_bytes zero n i = omega arith
number_bytes (suc k) n zero = byte_below k n
number_bytes (suc k) n (suc i) = number_bytes k n i

pub bytes-append : (xs ys : List ℕ) → IsBytes xs → IsBytes ys → IsBytes (xs ++ ys)
bytes-append xs ys front behind i = elim (cases_lt i (length xs)) [
  | inl within ↦ rw (get_or-append xs ys 0 i within) (front i)
  | inr past ↦ rw (get_or-append_right xs ys (length xs) i 0 refl past) (behind (i - length xs))
]

words_bytes : (words : List ℕ) (n : ℕ) → IsBytes (digest_bytes words n)
unfolding digest_bytes
words_bytes words zero i = omega arith
words_bytes words (suc n) i = bytes-append (digest_bytes words n) (to_be_bytes w32 (slice_index words n)) (words_bytes words n) (number_bytes 4 (slice_index words n)) i

pub sha256_bytes : (m : List ℕ) → IsBytes (sha256 m)
unfolding sha256
sha256_bytes m = words_bytes _ 8
