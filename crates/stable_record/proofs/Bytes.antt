-- Lists of bytes, and that a crash leaves only such lists.
use Rattle.std.proofs.Common.{◌≡◌, ⊎_elim, inl, inr, ℕ, zero, suc, ◌+◌, ◌-◌, ◌<◌, List, [], ◌∷◌, ◌++◌, length, take, drop, replicate, refl, sym, subst, arith, length-take}
use Rattle.std.proofs.lemmas.Bool.{cases_lt}
use Rattle.std.proofs.lemmas.List.{get_or_append_left, get_or-append_right, get_or-take, get_or-drop, get_or_past, get_or-replicate, length-replicate}
use Rattle.stable_record.specs.Crash.{MayLeave}
use Rattle.stable_record.specs.Events.{Event, Past, replay, writes, cuts, fails_to_write, fails_to_cut}
use Rattle.stable_record.specs.inside.Noted.{WereBytes}
use Rattle.stable_record.specs.inside.Possible.{half_cut_is_one, half_written_is_torn}
use Rattle.stable_record.specs.History.{History, IsBytes, stands, found, written, cut_to, synced, seen, overwritten}

pub no_bytes : IsBytes []
no_bytes k = omega arith

pub bytes-append : (xs ys : List ℕ) → IsBytes xs → IsBytes ys → IsBytes (xs ++ ys)
bytes-append xs ys front behind k = elim (cases_lt k (length xs)) [
  | inl within ↦ rw (get_or_append_left xs ys 0 k within) (front k)
  | inr past ↦ rw (get_or-append_right xs ys (length xs) k 0 refl past) (behind (k - length xs))
]

pub bytes-take : (n : ℕ) (xs : List ℕ) → IsBytes xs → IsBytes (take n xs)
bytes-take n xs are k = ⊎_elim
    (λ within. omega (arith, get_or-take n xs k 0 within, are k))
    (λ past. omega (arith, get_or_past (take n xs) k 0 (omega (arith, past, length-take n xs))))
    (cases_lt k n)

pub bytes-drop : (n : ℕ) (xs : List ℕ) → IsBytes xs → IsBytes (drop n xs)
bytes-drop n xs are k = subst (λ x. x < 256) (sym (get_or-drop n xs k 0)) (are (n + k))

pub bytes-replicate : (n b : ℕ) → b < 256 → IsBytes (replicate n b)
bytes-replicate n b byte k = ⊎_elim
    (λ within. omega (arith, get_or-replicate n k b 0 within, byte))
    (λ past. omega (arith, get_or_past (replicate n b) k 0 (omega (arith, past, length-replicate {A = ℕ} n b))))
    (cases_lt k n)

zero_is_byte : 0 < 256
zero_is_byte = omega arith

-- a file after a write
pub bytes-overwritten : (at : ℕ) (bytes file : List ℕ) → IsBytes bytes → IsBytes file → IsBytes (overwritten at bytes file)
bytes-overwritten at [] file are were = were
bytes-overwritten at (byte ∷ rest) file are were =
    let bytes = byte ∷ rest in
    let zeros = replicate (at - length file) 0 in
    bytes-append (take at file ++ zeros ++ bytes) (drop (at + length bytes) file)
    (bytes-append (take at file ++ zeros) bytes (bytes-append (take at file) zeros (bytes-take at file were) (bytes-replicate (at - length file) 0 zero_is_byte)) are)
    (bytes-drop (at + length bytes) file were)

-- what a crash may leave
pub left_are_bytes : (h : History) (c : List ℕ) → MayLeave h c → IsBytes c
left_are_bytes [] c is = subst IsBytes (sym is) no_bytes
left_are_bytes (stands file ∷ h) c is = is.1
left_are_bytes (found file ∷ h) c is = is
left_are_bytes (written at count file ∷ h) c (d, left, torn) = torn.are_bytes
left_are_bytes (cut_to len file ∷ h) c (d, left, cut) = ⊎_elim
    (λ same. subst IsBytes (sym same) (left_are_bytes h d left))
    (λ gone. subst IsBytes (sym gone) (bytes-take len d (left_are_bytes h d left)))
    cut
left_are_bytes (synced ∷ h) c is = is.1

-- one more call, with the same past
module _ (past later : Past) (same : later ≡ past) where
  at_first : IsBytes (seen past.calls) → WereBytes past []
  at_first start zero = start
  at_first start (suc n) = start

  -- before the first call
  pub none_noted : (es : List Event) → es ≡ [] → IsBytes (seen past.calls) → WereBytes later es
  none_noted es none start = subst (λ p. WereBytes p es) (sym same) (subst (WereBytes past) (sym none) (at_first start))

  were_more : (e : Event) (es : List Event) → IsBytes (seen (replay past (e ∷ es))) → WereBytes past es → WereBytes past (e ∷ es)
  were_more e es now were zero = now
  were_more e es now were (suc n) = were n

  module _ (es es' : List Event) (were : WereBytes past es) where
    -- a call after which a read returns bytes
    pub noted : (e : Event) → es' ≡ e ∷ es → IsBytes (seen (replay past (e ∷ es))) → WereBytes later es'
    noted e is now = subst (λ p. WereBytes p es') (sym same) (subst (WereBytes past) (sym is) (were_more e es now were))

    pub noted_write : (at : ℕ) (bytes : List ℕ) → es' ≡ writes at bytes ∷ es → IsBytes bytes → WereBytes later es'
    noted_write at bytes is are = noted (writes at bytes) is (bytes-overwritten at bytes (seen (replay past es)) are (were 0))

    pub noted_cut : (len : ℕ) → es' ≡ cuts len ∷ es → WereBytes later es'
    noted_cut len is = noted (cuts len) is (bytes-take len (seen (replay past es)) (were 0))

    -- a call that failed
    pub noted_failed_write : (at count : ℕ) → es' ≡ fails_to_write at count ∷ es → WereBytes later es'
    noted_failed_write at count is = noted (fails_to_write at count) is (half_written_is_torn past es at count (seen (replay past es)) (were 0)).are_bytes

    pub noted_failed_cut : (len : ℕ) → es' ≡ fails_to_cut len ∷ es → WereBytes later es'
    noted_failed_cut len is = noted (fails_to_cut len) is
        (⊎_elim
        (λ all. subst IsBytes (sym all) (were 0))
        (λ gone. subst IsBytes (sym gone) (bytes-take len (seen (replay past es)) (were 0)))
        (half_cut_is_one past es len (seen (replay past es))))
