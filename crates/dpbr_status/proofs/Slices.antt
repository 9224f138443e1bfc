-- Texts, and the slices of them that the code iterates over.
use Rattle.std.proofs.Common.{◌≡◌, ◌<◌, ◌≤◌, ℕ, zero, suc, Bor, List, [], ◌∷◌, length, map, take, get_or, arith, ap, refl}
use Rattle.faults.specs.Bytes.{Text}

pub now_at : (items : List (Bor Text)) (i : ℕ) (d : Bor Text) (t : Text) → i < length items → get_or (map (λ l. l.now) items) i t ≡ (get_or items i d).now
now_at [] i d t within = absurd (omega arith)
now_at (x ∷ xs) zero d t within = refl
now_at (x ∷ xs) (suc i) d t within = now_at xs i d t (omega arith)

pub length_now : (items : List (Bor Text)) → length (map (λ l. l.now) items) ≡ length items
length_now [] = refl
length_now (x ∷ xs) = ap suc (length_now xs)

pub taken_whole : {X : Type 0} (xs : List X) (i : ℕ) → length xs ≤ i → take i xs ≡ xs
taken_whole [] zero past = refl
taken_whole [] (suc i) past = refl
taken_whole (x ∷ xs) zero past = absurd (omega arith)
taken_whole (x ∷ xs) (suc i) past = ap (λ ys. x ∷ ys) (taken_whole xs i (omega arith))
