-- Bytes saved before a file is changed are put in front of those saved earlier.
use Rattle.std.proofs.Common.{◌≡◌, ◌∙◌, ◌<◌, ◌≤◌, ◌-◌, ◌+◌, ℕ, List, ◌++◌, ap, arith, drop, length, length-drop, sym, take}
use Rattle.std.proofs.Math.Seq.{drop-append_seam, take-add, take-append_seam}
use Rattle.std.proofs.lemmas.List.{append_assoc, length-append, length-take-le}

-- rotating a list by the length of its appended part puts that part in front
turned : {X : Type 0} (before kept : List X) (k : ℕ) → length kept ≡ k
    → drop (length (before ++ kept) - k) (before ++ kept) ++ take (length (before ++ kept) - k) (before ++ kept) ≡ kept ++ before
turned {X} before kept k is =
    let place : length (before ++ kept) - k ≡ length before = omega (arith, length-append before kept, is) in
    ap (λ (n : ℕ). drop n (before ++ kept) ++ take n (before ++ kept)) place
    ∙ ap (λ (xs : List X). xs ++ take (length before) (before ++ kept)) (drop-append_seam before kept)
    ∙ ap (λ (xs : List X). kept ++ xs) (take-append_seam before kept)

-- the bytes between two places, in front of those saved from the second place on, are those saved
-- from the first place on
pub kept_from : {X : Type 0} (place unchanged size : ℕ) (file before grown new : List X) → place < unchanged → unchanged ≤ length file
    → grown ≡ before ++ take (unchanged - place) (drop place file)
    → size ≡ length grown
    → new ≡ drop (size - (unchanged - place)) grown ++ take (size - (unchanged - place)) grown
    → take place file ++ new ≡ take unchanged file ++ before
kept_from {X} place unchanged size file before grown new lt within grows sized turns =
    let k : ℕ = unchanged - place in
    let kept = take k (drop place file) in
    let enough : k ≤ length (drop place file) = omega (arith, length-drop place file, within) in
    let there : place + k ≡ unchanged = omega (arith, lt) in
    ap (λ (xs : List X). take place file ++ xs) (turns
    ∙ ap (λ (n : ℕ). drop (n - k) grown ++ take (n - k) grown) sized
    ∙ ap (λ (xs : List X). drop (length xs - k) xs ++ take (length xs - k) xs) grows
    ∙ turned before kept k (length-take-le k (drop place file) enough))
    ∙ sym (append_assoc (take place file) kept before)
    ∙ ap (λ (xs : List X). xs ++ before) (sym (take-add place k file) ∙ ap (λ (n : ℕ). take n file) there)
