-- What a crash leaves if nothing was done yet.
use Rattle.std.proofs.Common.{⊎_elim, ℕ, List, [], ◌∷◌, arith, length-take, subst, sym, take}
use Rattle.std.proofs.lemmas.Bool.{cases_lt}
use Rattle.std.proofs.lemmas.List.{get_or-take, get_or_past}
use Rattle.stable_record.specs.Crash.{AllAlong, MayLeave, at_first}
use Rattle.stable_record.specs.History.{History, IsBytes, cut_to, found, stands, synced, written}
use Rattle.stable_record.specs.Opening.{OpensAsLeft}
use Rattle.stable_record.specs.declared.identity.Identity.{Identity}

bytes_taken : (n : ℕ) (xs : List ℕ) → IsBytes xs → IsBytes (take n xs)
bytes_taken n xs are k = ⊎_elim
    (λ within. omega (arith, get_or-take n xs k 0 within, are k))
    (λ past. omega (arith, get_or_past (take n xs) k 0 (omega (arith, past, length-take n xs))))
    (cases_lt k n)

-- what it leaves is a file of bytes
left_is_bytes : (h : History) (c : List ℕ) → MayLeave h c → IsBytes c
left_is_bytes [] c is = subst IsBytes (sym is) (λ k. omega arith)
left_is_bytes (stands file ∷ h) c is = is.1
left_is_bytes (found file ∷ h) c is = is
left_is_bytes (written at count file ∷ h) c (d, left, torn) = torn.are_bytes
left_is_bytes (cut_to len file ∷ h) c (d, left, cut) = ⊎_elim
    (λ same. subst IsBytes (sym same) (left_is_bytes h d left))
    (λ gone. subst IsBytes (sym gone) (bytes_taken len d (left_is_bytes h d left)))
    cut
left_is_bytes (synced ∷ h) c is = is.1

-- so it opens as something that a crash could leave
pub not_begun : (i : Identity) (h : History) → AllAlong (OpensAsLeft i h) h h
not_begun i h = at_first (λ c left. record {
  left = c;
  are_bytes = left_is_bytes h c left;
  could_be = left;
  same = λ answer. (λ is. is, λ is. is);
})
